-- The changes of a frame keep it sound.
use Rattle.std.specs.Prelude.{ℕ, suc, ◌+◌, ◌-◌, ◌<◌, ◌≤◌, min, ◌≡◌, refl, Bool, true, false, ltb, eqb}
use Rattle.std.proofs.Common.{◌∙◌, arith, ltb-true}
use Rattle.std.proofs.lemmas.List.{get_or-replicate}
use Rattle.std.proofs.lemmas.Bool.{eqb-false}
use Rattle.bounded.specs.Bools.{cond_ind}
use Rattle.bounded.specs.Fill.{tabulate, tabulate_at}
use Rattle.bounded.specs.Shift.{in_cases, out_cases}
use Rattle.state.specs.Places.{no_capability, slot_at}
use Rattle.state.specs.Update.{slot_in, insert_slot, slot_out, remove_slot, lock_slot, merge_list, only_list}
use Rattle.soundness.specs.Sound.{frame_ok}
use Rattle.soundness.specs.Laws.DomainParts.{FrameSound, frame_parts, parts_frame}
use Rattle.state.specs.declared.Capability.{Capability}
use Rattle.state.specs.declared.Frame.{Frame}

-- a frame given slot by slot
tabulated_sound : (g : ℕ → Capability) (n l : ℕ) (w : Bool) → n ≤ 8 → l ≤ n → ((k : ℕ) → k < n → (g k).page < 128)
    → ((k : ℕ) → k < 8 → n ≤ k → g k ≡ no_capability)
    → frame_ok false (record { slots = tabulate 8 g; count = n; locked = l; whole = w }) ≡ true
tabulated_sound g n l w a b h z =
    parts_frame _
    (record {
      long = refl;
      fits = a;
      locks = b;
      slot = λ k m. rw (tabulate_at 8 g k no_capability (omega arith)) (h k m);
      past = λ k m e. tabulate_at 8 g k no_capability m ∙ z k m e;
    })

-- a slot more, at the end or before it: a place further on would let in what stands past the end
pub insert_sound : (f : Frame) (at : ℕ) (c : Capability) → at ≤ f.count → c.page < 128 → frame_ok false f ≡ true → frame_ok false (insert_slot f at c) ≡ true
unfolding insert_slot
insert_sound f at c l p h =
    cond_ind (λ x. frame_ok false x ≡ true) (ltb f.count 8) _ f
    (λ r. tabulated_sound (slot_in f at c) _ _ _ (omega (arith, ltb-true f.count 8 r)) (omega (arith, q.locks)) in_k in_past)
    (λ r. h)
  where
    q : FrameSound f
    q = frame_parts f h

    in_k : (k : ℕ) → k < f.count + 1 → (slot_in f at c k).page < 128
    in_k k m =
        in_cases (slot_at f) at c (λ x. x.page < 128) k (λ b. q.slot k (omega arith)) (λ e. p) (λ b. q.slot (k - 1) (omega arith))

    in_past : (k : ℕ) → k < 8 → f.count + 1 ≤ k → slot_in f at c k ≡ no_capability
    in_past k m n =
        in_cases (slot_at f) at c (λ x. x ≡ no_capability) k (λ b. absurd (omega arith)) (λ e. absurd (omega arith))
        (λ b. q.past (k - 1) (omega arith) (omega arith))

-- a slot less, none of the locked ones
pub remove_sound : (f : Frame) (at : ℕ) → f.locked ≤ at → frame_ok false f ≡ true → frame_ok false (remove_slot f at) ≡ true
unfolding remove_slot
remove_sound f at l h =
    cond_ind (λ x. frame_ok false x ≡ true) (ltb at f.count) _ f
    (λ r. tabulated_sound (slot_out f at) _ _ _ (omega (arith, q.fits)) (omega (arith, ltb-true at f.count r)) out_k
    (out_past (ltb-true at f.count r)))
    (λ r. h)
  where
    q : FrameSound f
    q = frame_parts f h

    out_k : (k : ℕ) → k < f.count - 1 → (slot_out f at k).page < 128
    out_k k m =
        out_cases (slot_at f) 7 no_capability at (λ x. x.page < 128) k (λ b. q.slot k (omega arith)) (λ b e. q.slot (k + 1) (omega arith))
        (λ b e. absurd (omega (arith, q.fits)))

    out_past : at < f.count → (k : ℕ) → k < 8 → f.count - 1 ≤ k → slot_out f at k ≡ no_capability
    out_past s k m n =
        out_cases (slot_at f) 7 no_capability at (λ x. x ≡ no_capability) k (λ b. absurd (omega arith))
        (λ b e. q.past (k + 1) (omega arith) (omega arith)) (λ b e. refl)

-- a lock on a slot that stands, or on the whole list
pub lock_sound : (f : Frame) (slot : ℕ) → ((slot ≡ 255 → ⊥) → slot < f.count) → frame_ok false f ≡ true → frame_ok false (lock_slot f slot) ≡ true
unfolding lock_slot
lock_sound f slot p h =
    cond_ind (λ x. frame_ok false x ≡ true) (eqb slot 255) _ _
    (λ e. parts_frame _ (record { long = q.long; fits = q.fits; locks = q.locks; slot = q.slot; past = q.past }))
    (λ e. parts_frame _
    (record { long = q.long; fits = q.fits; locks = omega (arith, q.locks, p (eqb-false slot 255 e)); slot = q.slot; past = q.past }))
  where
    q : FrameSound f
    q = frame_parts f h

-- a merged list
pub merge_sound : (f : Frame) (c : Capability) → c.page < 128 → frame_ok false f ≡ true → frame_ok false (merge_list f c) ≡ true
unfolding merge_list
merge_sound f c p h =
    insert_sound f _ c
    (cond_ind (λ n. n ≤ f.count) (eqb f.locked 0) (min 1 f.count) f.locked (λ e. omega arith) (λ e. (frame_parts f h).locks)) p h

-- a list alone
pub only_sound : (c : Capability) → c.page < 128 → frame_ok false (only_list c) ≡ true
unfolding only_list
only_sound c p = parts_frame _ (record { long = refl; fits = omega arith; locks = omega arith; slot = slot; past = past })
  where
    slot : (k : ℕ) → k < 1 → (slot_at (only_list c) k).page < 128
    slot k m = let e : k ≡ 0 = omega arith in rw e p

    past : (k : ℕ) → k < 8 → 1 ≤ k → slot_at (only_list c) k ≡ no_capability
    past ℕ.zero l m = absurd (omega arith)
    past (suc k) l m = get_or-replicate 7 k no_capability no_capability (omega arith)
