-- Before a boot no account has pages and no object stands, whatever is called: document 02, T-05 and T-06. Behind any list of calls:
-- ../../proofs/Unbooted.antt.
use Rattle.std.specs.Prelude.{ℕ, zero, suc, ◌<◌, ◌≡◌, refl, true, ◌⊎◌}
use Rattle.std.proofs.Common.{◌∙◌, inl, inr, arith, eq-eqb}
use Rattle.std.proofs.lemmas.List.{get_or-replicate}
use Rattle.bounded.specs.Bools.{same_or_not}
use Rattle.bounded.specs.Sum.{total, total_none}
use Rattle.state.specs.Places.{no_object, no_estate, free_object, empty_estate, no_accounts, empty_state, object_at, estate_at, limit_at}
use Rattle.state.specs.Pages.{pages_on, estate_pages, pages_of}
use Rattle.state.specs.Laws.Pages.{none_on}
use Rattle.state.specs.declared.Object.{Object}
use Rattle.state.specs.declared.State.{State}
use Rattle.soundness.specs.Sound.{sound}
use Rattle.soundness.specs.Laws.Estates.{empty_sound}
use Rattle.soundness.specs.Laws.ObjectParts.{object_parts}
use Rattle.soundness.specs.Laws.StateParts.{state_parts, estate_parts}
use Rattle.calls.specs.View.{World}
use Rattle.calls.specs.Runs.{Event, result_of}
use Rattle.calls.proofs.Sound.{step_sound, step_accounts}
use Rattle.runs.specs.Ledger.{WithinLimits}
use Rattle.runs.specs.Laws.Figure.{step_limits}

-- a state as before a boot: limits of 0 and empty sets, and nothing on any account
pub record Unbooted (s : State) : Type 0 where
  pub is_sound : sound s ≡ true
  pub accounts : s.accounts ≡ no_accounts
  pub figure : (a : ℕ) → a < 4 → pages_of s.table a ≡ 0

no_limit : (s : State) (a : ℕ) → s.accounts ≡ no_accounts → a < 4 → limit_at s.accounts a ≡ 0
no_limit s a e l = rw e (get_or-replicate 4 a 0 0 l)

within : (s : State) → Unbooted s → WithinLimits s
within s u a l = omega (arith, u.figure a l)

pub empty_unbooted : Unbooted empty_state
unfolding pages_of estate_pages
empty_unbooted =
    record {
      is_sound = empty_sound;
      accounts = refl;
      figure =
          λ a l. total_none 4 _
          (λ d m. rw (get_or-replicate 4 d empty_estate no_estate m)
          (total_none 8 _ (λ k n. rw (get_or-replicate 8 k free_object no_object n) (none_on a free_object refl))));
    }

pub step_unbooted : (w : World) (e : Event) → Unbooted w.state → Unbooted (result_of w e).outcome.state
step_unbooted w e u =
    let s : State = (result_of w e).outcome.state in
    let x : s.accounts ≡ no_accounts = step_accounts w e.domain e.call ∙ u.accounts in
    record {
      is_sound = step_sound w e.domain e.call u.is_sound;
      accounts = x;
      figure = λ a l. omega (arith, step_limits w e u.is_sound (within w.state u) a l, no_limit s a x l);
    }

-- a part of a sum of 0
none_of : (n : ℕ) (f : ℕ → ℕ) → total n f ≡ 0 → (i : ℕ) → i < n → f i ≡ 0
unfolding total
none_of zero f z i l = absurd (omega arith)
none_of (suc n) f z i l = go (none_of n f (omega arith) i) (same_or_not i n)
  where
    go : (i < n → f i ≡ 0) → (i ≡ n) ⊎ (i ≡ n → ⊥) → f i ≡ 0
    go h (inl e) = rw e (omega arith)
    go h (inr ne) = h (omega arith)

-- BEFORE A BOOT NO OBJECT STANDS: every place is free
pub unbooted_free : (s : State) → Unbooted s → (d k : ℕ) → d < 4 → k < 8 → (object_at (estate_at s.table d) k).pages ≡ 0
unfolding pages_of estate_pages
unbooted_free s u d k l m = go (same_or_not o.pages 0)
  where
    o : Object
    o = object_at (estate_at s.table d) k

    go : (o.pages ≡ 0) ⊎ (o.pages ≡ 0 → ⊥) → o.pages ≡ 0
    go (inl z) = z
    go (inr n) =
        let b = (object_parts o d ((estate_parts _ d ((state_parts s u.is_sound).estate d l)).object k m)).bounds (omega arith) in
        let on : pages_on o.account o ≡ 0 = none_of 8 _ (none_of 4 _ (u.figure o.account b.account) d l) k m in
        rw (eq-eqb o.account o.account refl) at on
