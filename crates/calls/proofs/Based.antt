-- A call on the object with a base: what its code hands back where it is refused behind checks 5 and 6.
use Rattle.std.specs.Prelude.{ℕ, ◌≡◌, true, List, Option, Some, Result, Err}
use Rattle.state.specs.declared.Table.{Table}
use Rattle.state.specs.declared.Frame.{Frame}
use Rattle.state.specs.declared.Accounts.{Accounts}
use Rattle.judge.specs.Judged.{judged}
use Rattle.judge.specs.declared.Target.TheVariants.{Base}
use Rattle.calls.specs.View.{rights, View, first_failing}
use Rattle.calls.specs.Rules.{in_range, unlocked, wanted, late}
use Rattle.calls.specs.Parts.{Entered, Alters}
use Rattle.calls.proofs.Parts.{alters_late}
use Rattle.calls.specs.declared.Call.TheVariants.{OnObject}
use Rattle.calls.specs.declared.ObjectCall.{ObjectCall}
use Rattle.calls.specs.declared.Altered.{Altered}
use Rattle.calls.specs.declared.Refusal.{Refusal}
use Rattle.calls.specs.Laws.Based.{Sees, sees}

module _ (t : Table) (x : Accounts) (d : ℕ) (f : Frame) (words : List ℕ) (c : ObjectCall) {b r : ℕ} {a j : Option ℕ} (e : Entered words d)
    (w : wanted (OnObject c) ≡ rights (Base b) r) (n : in_range (OnObject c) ≡ true)
    (u : unlocked (OnObject c) f ≡ true) (p : a ≡ judged t words f (Base b) r) (g : a ≡ j) where
  -- refused by the judgement, or behind it
  pub based_late : {y : Result Altered Refusal} {why : Refusal} → ((v : View) → Sees t words c b j v → first_failing (late d (OnObject c) v) ≡ Some why) → y ≡ Err why
      → Alters t x d f words c y words
  based_late l h = alters_late t x d f words c e n u (λ m q. l _ (sees t x d f words c e w n u p g m q)) h
