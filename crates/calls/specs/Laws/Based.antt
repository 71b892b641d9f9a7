-- A call on the object with a base: what its code hands back behind checks 5 and 6.
use Rattle.std.specs.Prelude.{ℕ, ◌/◌, ◌≡◌, refl, true, List, [], ◌∷◌, ltb, Option, Some, None, Result}
use Rattle.std.proofs.Common.{arith, ltb-true}
use Rattle.state.specs.Places.{no_accounts}
use Rattle.state.specs.declared.Estate.{Estate}
use Rattle.state.specs.declared.Table.{Table}
use Rattle.state.specs.declared.Frame.{Frame}
use Rattle.state.specs.declared.Domain.{Domain}
use Rattle.state.specs.declared.Accounts.{Accounts}
use Rattle.judge.specs.Judged.{judged}
use Rattle.judge.specs.declared.Target.TheVariants.{Base}
use Rattle.calls.specs.View.{rights, Found, View, first_failing, found_by, passes}
use Rattle.calls.specs.Answers.{no_fields}
use Rattle.calls.specs.Changes.{estate}
use Rattle.calls.specs.Rules.{rule, in_range, unlocked, wanted, presented, value, fields, late, changes}
use Rattle.calls.specs.Step.{world}
use Rattle.calls.specs.Parts.{Entered, altered, Alters}
use Rattle.calls.specs.Laws.Parts.{parts, view_of, alters_done}
use Rattle.calls.specs.declared.Call.TheVariants.{OnObject}
use Rattle.calls.specs.declared.ObjectCall.{ObjectCall}
use Rattle.calls.specs.declared.ObjectCall.TheVariants.{Create, Delete, AddPassword, DropPassword, Register}
use Rattle.calls.specs.declared.Refusal.{Refusal}
use Rattle.calls.specs.declared.Altered.{Altered}

-- of every call on objects: its value is 0, and it has no fields
record Plain (c : ObjectCall) : Type 0 where
  pub zero : (v : View) → value (OnObject c) v ≡ 0
  pub bare : (v : View) → fields (OnObject c) v ≡ no_fields

plain : (c : ObjectCall) → Plain c
unfolding rule
plain (Create p n k a) = record { zero = λ v. refl; bare = λ v. refl }
plain (Delete b) = record { zero = λ v. refl; bare = λ v. refl }
plain (AddPassword b k m) = record { zero = λ v. refl; bare = λ v. refl }
plain (DropPassword b k) = record { zero = λ v. refl; bare = λ v. refl }
plain (Register b k l es) = record { zero = λ v. refl; bare = λ v. refl }

-- what the search for the object with a base gives, by the judgement
abbrev pub based : Table → List ℕ → ℕ → Option ℕ → Option Found
based t words b j = found_by (world (parts t no_accounts) words) (Base b) j

-- a view of a call: the judgement, and whether what it presents is live
pub record Sees (t : Table) (words : List ℕ) (c : ObjectCall) (b : ℕ) (j : Option ℕ) (v : View) : Type 0 where
  pub found : v.found ≡ based t words b j
  pub live : v.live ≡ passes t (presented (OnObject c))

module _ (t : Table) (x : Accounts) (d : ℕ) (f : Frame) (words : List ℕ) (c : ObjectCall) {b r : ℕ} {a j : Option ℕ} (e : Entered words d)
    (w : wanted (OnObject c) ≡ rights (Base b) r) (n : in_range (OnObject c) ≡ true)
    (u : unlocked (OnObject c) f ≡ true) (p : a ≡ judged t words f (Base b) r) (g : a ≡ j) where
  pub sees : (m : Domain) → m.active ≡ f → Sees t words c b j (view_of t x words d m (OnObject c))
  sees m q = record { found = rw (w, q, ← p, g) (told j); live = refl }
    where
      told : (i : Option ℕ) → found_by (world (parts t x) words) (Base b) i ≡ based t words b i
      told (Some pair) = refl
      told None = refl

  -- done: its estate becomes another
  pub based_done : {y : Result Altered Refusal} (z : Estate) → ltb b 128 ≡ true → ((v : View) → Sees t words c b j v → first_failing (late d (OnObject c) v) ≡ None)
      → ((v : View) → Sees t words c b j v → changes d (OnObject c) v ≡ estate (b / 32) z ∷ []) → y ≡ altered b z → Alters t x d f words c y words
  based_done z i l k h =
      alters_done t x d f words c e (λ new j. let m = ltb-true b 128 i in let k : new.place ≡ b / 32 = cc in omega arith) n u (λ m q. l _ (sees m q))
      (λ m q s. rw (h, i, k _ (sees m q), (plain c).zero, (plain c).bare))
