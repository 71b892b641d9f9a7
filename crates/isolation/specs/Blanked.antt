-- What stands past the entry count of RG is no argument: blanking it changes nothing that a call does.
use Rattle.std.specs.Prelude.{ℕ, ◌/◌, ◌≡◌, Bool, true, false, cond, ◌||◌, ◌∷◌, leb, Option, Some, None}
use Rattle.std.proofs.Math.Path.{refl}
use Rattle.std.proofs.Math.Dec.{ltb}
use Rattle.std.proofs.Common.{leb-false, lt-ltb}
use Rattle.bounded.specs.Every.{below}
use Rattle.state.specs.Extent.{covers}
use Rattle.judge.specs.Judged.{judged}
use Rattle.calls.specs.Arguments.{entries_all}
use Rattle.calls.specs.View.{World, View, first_failing, object_of}
use Rattle.calls.specs.Changes.{registration}
use Rattle.calls.specs.Rules.{rule, in_range, unlocked, view, early, late, checks, changes}
use Rattle.calls.specs.Step.{concluded, store_check, unchecked_by, unchecked}
use Rattle.calls.specs.declared.Call.{Call}
use Rattle.calls.specs.declared.Call.TheVariants.{OnStore, OnObject, OnDomain}
use Rattle.calls.specs.declared.ObjectCall.TheVariants.{Create, Delete, AddPassword, DropPassword, Register}
use Rattle.calls.specs.declared.Presented.{Presented}
use Rattle.calls.specs.declared.Refusal.{Refusal}
use Rattle.calls.specs.declared.Entries.{Entries}
use Rattle.isolation.specs.Runs.{counted_entries, blanked}
use Rattle.isolation.specs.Mask.{cond_cond}

-- a test of a place that may be unused does not look at what is blanked
counted_test : (test : ℕ → Bool) (n k x : ℕ) → (leb n k || test (cond (ltb k n) x 0)) ≡ (leb n k || test x)
counted_test test n k x = go (leb n k) refl
  where
    go : (b : Bool) → leb n k ≡ b → (b || test (cond (ltb k n) x 0)) ≡ (b || test x)
    go true e = refl
    go false e = rw (lt-ltb k n (leb-false n k e))

entries_counted : (test : ℕ → Bool) (es : Entries) → entries_all test (counted_entries es) ≡ entries_all test es
unfolding below
entries_counted test es =
    rw (
      counted_test test es.count 0 es.first,
      counted_test test es.count 1 es.second,
      counted_test test es.count 2 es.third,
      counted_test test es.count 3 es.fourth,
    )

registration_counted : (k : ℕ) (l : Presented) (es : Entries) → registration k l (counted_entries es) ≡ registration k l es
unfolding registration
registration_counted k l es = simp cond_cond

-- RG is checked and done alike
module _ (b k : ℕ) (l : Presented) (es : Entries) (d : ℕ) where
  abbrev pub given : Call
  given = OnObject (Register b k l es)

  abbrev pub stripped : Call
  stripped = OnObject (Register b k l (counted_entries es))

  range_same : in_range stripped ≡ in_range given
  unfolding in_range
  range_same = rw (entries_counted (λ a. ltb a 8192) es)

  pub view_same : (w : World) → view judged w d stripped ≡ view judged w d given
  unfolding view rule
  view_same w = refl

  checks_same : (v : View) → checks d stripped v ≡ checks d given v
  unfolding checks early unlocked late
  checks_same v = rw (range_same, entries_counted (λ a. covers (object_of v.found) (a / 64)) es)

  concluded_same : (o : Option Refusal) (w : World) (v : View) → concluded o w d stripped v ≡ concluded o w d given v
  unfolding changes
  concluded_same None w v = rw (registration_counted k l es)
  concluded_same (Some r) w v = refl

  register_same : (w : World) → unchecked w d stripped ≡ unchecked w d given
  unfolding unchecked_by
  register_same w = rw (view_same w, checks_same (view judged w d given)) (concluded_same (first_failing (store_check w ∷ checks d given (view judged w d given))) w (view judged w d given))

-- A call does what it does with the surplus blanked.
pub unchecked_blanked : (w : World) (d : ℕ) (c : Call) → unchecked w d (blanked c) ≡ unchecked w d c
unchecked_blanked w d (OnStore c) = refl
unchecked_blanked w d (OnObject (Create p n k a)) = refl
unchecked_blanked w d (OnObject (Delete b)) = refl
unchecked_blanked w d (OnObject (AddPassword b k m)) = refl
unchecked_blanked w d (OnObject (DropPassword b k)) = refl
unchecked_blanked w d (OnObject (Register b k l es)) = register_same b k l es d w
unchecked_blanked w d (OnDomain c) = refl
