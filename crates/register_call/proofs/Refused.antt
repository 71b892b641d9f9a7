-- What RG hands back where a check of the object fails.
use Rattle.std.specs.Prelude.{ℕ, ◌/◌, ◌≡◌, refl, true, false, not, List, [], ◌∷◌, eqb, Option, Some, Err}
use Rattle.std.proofs.Common.{sym, ap}
use Rattle.rights.specs.Modes.{owner}
use Rattle.state.specs.Extent.{covers}
use Rattle.state.specs.Lookup.{object_based, has_password}
use Rattle.state.specs.declared.Object.{Object}
use Rattle.state.specs.declared.Table.{Table}
use Rattle.state.specs.declared.Frame.{Frame}
use Rattle.state.specs.declared.Accounts.{Accounts}
use Rattle.clists.specs.Clist.{live}
use Rattle.judge.specs.Judged.{judged}
use Rattle.judge.specs.declared.Target.TheVariants.{Base}
use Rattle.calls.specs.Arguments.{entries_all}
use Rattle.calls.specs.Changes.{capability}
use Rattle.calls.specs.View.{check, first_failing}
use Rattle.calls.specs.Rules.{rule, in_range, unlocked, late}
use Rattle.calls.specs.Parts.{Entered, Alters}
use Rattle.calls.proofs.Based.{based_late}
use Rattle.calls.specs.declared.Call.TheVariants.{OnObject}
use Rattle.calls.specs.declared.ObjectCall.TheVariants.{Register}
use Rattle.calls.specs.declared.Presented.{Presented}
use Rattle.calls.specs.declared.Entries.{Entries}
use Rattle.calls.specs.declared.Refusal.{Refusal}
use Rattle.calls.specs.declared.Refusal.TheVariants.{NotEntry, HasPassword, Full}

-- the check behind 7 that an object fails
abbrev pub failing : Object → ℕ → Entries → Option Refusal
failing o k es =
    first_failing
    (check NotEntry (entries_all (λ a. covers o (a / 64)) es)
    ∷ check HasPassword (not (has_password o k))
    ∷ check Full (eqb o.registration.password 0)
    ∷ [])

-- what RG hands back there
pub refused : {t : Table} {x : Accounts} {d : ℕ} {f : Frame} {words : List ℕ} {b k : ℕ} {l : Presented} {es : Entries}
    → {j : Option ℕ} {pair : ℕ} {o : Object} {why : Refusal}
    → Entered words d → true ≡ in_range (OnObject (Register b k l es)) → f.whole ≡ false → j ≡ judged t words f (Base b) owner → j ≡ Some pair
    → true ≡ live t (capability l) → o ≡ object_based t b → failing o k es ≡ Some why → Alters t x d f words (Register b k l es) (Err why) words
unfolding rule unlocked late
refused e n w p g y q z =
    based_late _ _ _ _ _ _ e refl (sym n) (ap not w) p g (λ v s. rw (s.found, s.live, ← y, ← q) z) refl
