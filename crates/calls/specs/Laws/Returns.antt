-- What a call returns, check by check: each law takes the facts that hold where the code returns.
use Rattle.std.specs.Prelude.{ℕ, ◌≡◌, Bool, true, false, cond, List, ◌∷◌, ltb, eqb, length, Option, Some, None, Ok, Err}
use Rattle.std.proofs.Math.Path.{refl}
use Rattle.std.proofs.Common.{arith}
use borrow.Author.Tests.{eq-eqb, eqb-true, lt-ltb, ltb-true}
use Rattle.state.specs.Places.{domain_at}
use Rattle.state.specs.declared.State.{State}
use Rattle.judge.specs.Judged.{judged}
use Rattle.calls.specs.View.{Check, check, first_failing}
use Rattle.calls.specs.Rules.{in_range, unlocked, early, view, late, checks}
use Rattle.calls.specs.Step.{Result, world, result_of, refused_with, done, concluded, unchecked_by, unchecked}
use Rattle.calls.specs.Parts.{caller_of, Entered}
use Rattle.calls.specs.declared.Call.{Call}
use Rattle.calls.specs.declared.Refusal.{Refusal}
use Rattle.calls.specs.declared.Refusal.TheVariants.{StoreLength, NoDomain, OutOfRange, Locked}

-- a caller that is known has passed checks 2 and 4
pub caller_known : (words : List ℕ) (d k : ℕ) → caller_of (length words) d ≡ Ok k → Entered words d × (k ≡ d)
caller_known words d k h = go (eqb (length words) 8192) (ltb d 4) refl refl h
  where
    go : (a b : Bool) → eqb (length words) 8192 ≡ a → ltb d 4 ≡ b → cond a (cond b (Ok d) (Err NoDomain)) (Err StoreLength) ≡ Ok k
        → Entered words d × (k ≡ d)
    go true true p q e = (record { long = eqb-true _ 8192 p; known = ltb-true d 4 q }, cc)
    go true false p q e = let z : ◌≡◌ {A = ℕ} 0 1 = cc in absurd (omega arith)
    go false b p q e = let z : ◌≡◌ {A = ℕ} 0 1 = cc in absurd (omega arith)

-- one that is not is refused by the first of them that fails, whatever is checked behind
pub caller_unknown : (P : Option Refusal → Type 0) (words : List ℕ) (d : ℕ) (cs : List Check) (why : Refusal) → caller_of (length words) d ≡ Err why
    → P (Some why) → P (first_failing (check StoreLength (eqb (length words) 8192) ∷ check NoDomain (ltb d 4) ∷ cs))
caller_unknown P words d cs why h x = go (eqb (length words) 8192) (ltb d 4) h
  where
    go : (a b : Bool) → cond a (cond b (Ok d) (Err NoDomain)) (Err StoreLength) ≡ Err why → P (cond a (cond b (first_failing cs) (Some NoDomain)) (Some StoreLength))
    go true true e = let z : ◌≡◌ {A = ℕ} 0 1 = cc in absurd (omega arith)
    go true false e = let r : NoDomain ≡ why = cc in rw r x
    go false b e = let r : StoreLength ≡ why = cc in rw r x

module _ (s : State) (words : List ℕ) (d : ℕ) (c : Call) where
  -- 2 and 4: a caller that is not known
  pub by_caller : (why : Refusal) → caller_of (length words) d ≡ Err why → result_of (refused_with s why) words ≡ unchecked (world s words) d c
  unfolding unchecked_by checks early view
  by_caller why h =
      caller_unknown (λ x. result_of (refused_with s why) words ≡ concluded x (world s words) d c (view judged (world s words) d c)) words d
      (check OutOfRange (in_range c) ∷ check Locked (unlocked c (domain_at s d).active) ∷ late d c (view judged (world s words) d c)) why h refl

  module _ {x : Result} (e : Entered words d) where
    -- 5
    pub by_range : in_range c ≡ false → x ≡ result_of (refused_with s OutOfRange) words → x ≡ unchecked (world s words) d c
    unfolding unchecked_by checks early
    by_range a h = rw (eq-eqb _ _ e.long, lt-ltb _ _ e.known, a, h)

    -- 6
    pub by_lock : in_range c ≡ true → unlocked c (domain_at s d).active ≡ false → x ≡ result_of (refused_with s Locked) words → x ≡ unchecked (world s words) d c
    unfolding unchecked_by checks early view
    by_lock a u h = rw (eq-eqb _ _ e.long, lt-ltb _ _ e.known, a, u, h)

    -- 7 to 12
    pub by_late : {why : Refusal} → in_range c ≡ true → unlocked c (domain_at s d).active ≡ true
        → first_failing (late d c (view judged (world s words) d c)) ≡ Some why → x ≡ result_of (refused_with s why) words → x ≡ unchecked (world s words) d c
    unfolding unchecked_by checks early view
    by_late a u f h = rw (eq-eqb _ _ e.long, lt-ltb _ _ e.known, a, u, f, h)

    -- done
    pub by_done : in_range c ≡ true → unlocked c (domain_at s d).active ≡ true → first_failing (late d c (view judged (world s words) d c)) ≡ None
        → x ≡ done (world s words) d c (view judged (world s words) d c) → x ≡ unchecked (world s words) d c
    unfolding unchecked_by checks early view
    by_done a u f h = rw (eq-eqb _ _ e.long, lt-ltb _ _ e.known, a, u, f, h)
