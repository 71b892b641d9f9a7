-- What a judgement says behind `ok_or(Refusal::NotGranted)?`, and what a `?` hands back.
use Rattle.std.specs.Prelude.{ℕ, ◌≡◌, refl, Option, Some, None, Result, Ok, Err, ok_or}
use Rattle.std.proofs.Common.{ap, ◌∙◌, arith}
use Rattle.std.specs.Result.{IsErrAnd}
use Rattle.std.proofs.lemmas.Result.{err_from_is_err_and}
use Rattle.calls.specs.declared.Refusal.{Refusal}
use Rattle.calls.specs.declared.Refusal.TheVariants.{NotGranted}

-- refused, it is none
pub none_granted : (j : Option ℕ) {e : Refusal} {r : Result ℕ Refusal} → r ≡ ok_or j NotGranted → r ≡ Err e → (j ≡ None) × (e ≡ NotGranted)
none_granted None h k = (refl, cc)
none_granted (Some pair) h k = let z : ◌≡◌ {A = ℕ} 0 1 = cc in absurd (omega arith)

-- else it is the pair
pub some_granted : (j : Option ℕ) {pair : ℕ} {r : Result ℕ Refusal} → r ≡ ok_or j NotGranted → r ≡ Ok pair → j ≡ Some pair
some_granted None h k = let z : ◌≡◌ {A = ℕ} 0 1 = cc in absurd (omega arith)
some_granted (Some p) h k = cc

-- the refusal that a `?` hands back
pub exits : {A : Type 0} {r : Result A Refusal} {e why : Refusal} → IsErrAnd r (λ x. x ≡ e) → e ≡ why → r ≡ Err why
exits h k = let p = err_from_is_err_and _ h in p.1 ∙ ap Err (p.2 ∙ k)
