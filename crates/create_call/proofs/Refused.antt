-- What CR hands back where a check behind 5 fails, and that its object lies in the store.
use Prim.Native.Nat.{ℕ, ◌+◌, ◌*◌, ◌<◌, ◌≤◌}
use mathlib.Core.Path.{◌≡◌, refl, sym}
use mathlib.Core.Bool.{true, false, ◌&&◌}
use mathlib.Core.List.{List, [], ◌∷◌}
use native.Mathlib.Omega.{arith}
use lib.Dec.{leb}
use borrow.Author.Tests.{leb-true}
use Rattle.std.specs.Prelude.{length, Option, Some, Ok, Err}
use Rattle.bounded.specs.Bools.{and_right}
use Rattle.state.specs.Places.{estate_at}
use Rattle.state.specs.Extent.{lies_in}
use Rattle.state.specs.Lookup.{has_room}
use Rattle.state.specs.Update.{new_object}
use Rattle.state.specs.declared.Object.{Object}
use Rattle.state.specs.declared.Table.{Table}
use Rattle.state.specs.declared.Frame.{Frame}
use Rattle.state.specs.declared.Accounts.{Accounts}
use Rattle.calls.specs.Arguments.{run_free}
use Rattle.calls.specs.View.{Charge, check, first_failing, permitted, within_limit}
use Rattle.calls.specs.Rules.{rule, in_range, unlocked, late}
use Rattle.calls.specs.Parts.{caller_of, Alters}
use Rattle.calls.specs.Laws.Returns.{caller_known}
use Rattle.calls.proofs.Parts.{alters_range, alters_late}
use Rattle.calls.specs.declared.Call.TheVariants.{OnObject}
use Rattle.calls.specs.declared.ObjectCall.TheVariants.{Create}
use Rattle.calls.specs.declared.Refusal.{Refusal}
use Rattle.calls.specs.declared.Refusal.TheVariants.{OutOfRange, NoRun, NotPermitted, LimitPassed, Full}

-- the check behind 5 that an object on an account fails
abbrev pub failing : Table → Accounts → ℕ → Object → Charge → Option Refusal
failing t x d o charge =
    first_failing
    (check NoRun (lies_in o d && run_free (estate_at t d) o)
    ∷ check NotPermitted (permitted x d (Some charge))
    ∷ check LimitPassed (within_limit t x d (Some charge))
    ∷ check Full (has_room (estate_at t d))
    ∷ [])

module _ {t : Table} {x : Accounts} {d i : ℕ} {f : Frame} {words : List ℕ} {p n k a : ℕ} (e : Ok i ≡ caller_of (length words) d) where
  -- out of range
  pub ranged : false ≡ in_range (OnObject (Create p n k a)) → Alters t x d f words (Create p n k a) (Err OutOfRange) words
  ranged h = alters_range _ _ _ _ _ _ (caller_known _ _ _ (sym e)).0 (sym h) refl

  -- refused behind that: the code has the caller's place, and the object
  pub refused : {o : Object} {why : Refusal} → true ≡ in_range (OnObject (Create p n k a)) → o ≡ new_object p n k a
      → failing t x i o (record { account = a; pages = n }) ≡ Some why → Alters t x d f words (Create p n k a) (Err why) words
  unfolding rule unlocked late
  refused h q l =
      let known = caller_known _ _ _ (sym e) in
      alters_late _ _ _ _ _ _ known.0 (sym h) refl (λ m g. rw (← q, ← known.1) l) refl

-- a new object in an estate lies in the store
pub create_run : (o : Object) (d p n k a : ℕ) → o ≡ new_object p n k a → lies_in o d ≡ true → d < 4 → 64 * p + 64 * n ≤ 8192
unfolding lies_in new_object
create_run o d p n k a e h l =
    let lies = rw e at h in
    omega (arith, leb-true (p + n) (32 * d + 32) (and_right (leb (32 * d) p) _ lies))
