-- Frames and domains whose slots name pages inside stay such.
use Rattle.std.specs.Prelude.{ℕ, suc, ◌+◌, ◌-◌, ◌<◌, ◌≤◌, min, ◌≡◌, ◌&&◌, ◌∷◌, ltb, eqb, length, get_or}
use Rattle.std.proofs.Common.{arith, get_or-set_other}
use Rattle.std.proofs.Math.Dec.{leb}
use Rattle.std.proofs.Math.ListN.{replicate}
use borrow.Author.Tests.{ltb-true}
use Rattle.bounded.specs.Bools.{and_left, cond_ind}
use Rattle.bounded.specs.Every.{set_at}
use Rattle.bounded.specs.Fill.{tabulate_at}
use Rattle.bounded.specs.Shift.{in_cases, out_cases}
use Rattle.state.specs.Places.{no_capability, no_frame, empty_frame, slot_at}
use Rattle.state.specs.Update.{slot_in, slot_out, insert_slot, remove_slot, lock_slot, merge_list, only_list, save_domain, restore_domain}
use Rattle.state.specs.declared.Capability.{Capability}
use Rattle.state.specs.declared.Frame.{Frame}
use Rattle.state.specs.declared.Domain.{Domain}
use Rattle.calls.specs.Changes.{entered}
use Rattle.isolation.specs.Group.{Group}
use Rattle.isolation.proofs.Slots.Inside.{Page, FrameIn, DomainIn}

module _ (G : Group) where
  -- a frame with one slot
  pub only_in : (c : Capability) → Page G c → FrameIn G (only_list c)
  unfolding only_list
  only_in c p k m = go k m
    where
      go : (k : ℕ) → k < 1 → Page G (get_or (c ∷ replicate 7 no_capability) k no_capability)
      go ℕ.zero m = p
      go (suc k) m = absurd (omega arith)

  -- a slot more
  pub insert_in : (f : Frame) (at : ℕ) (c : Capability) → at ≤ f.count → Page G c → FrameIn G f → FrameIn G (insert_slot f at c)
  unfolding insert_slot
  insert_in f at c l p h =
      cond_ind (FrameIn G) (ltb f.count 8) _ f
      (λ r k m. rw (tabulate_at 8 (slot_in f at c) k no_capability (omega (arith, ltb-true f.count 8 r))) (in_k k m)) (λ r. h)
    where
      in_k : (k : ℕ) → k < f.count + 1 → Page G (slot_in f at c k)
      in_k k m = in_cases (slot_at f) at c (Page G) k (λ b. h k (omega arith)) (λ e. p) (λ b. h (k - 1) (omega arith))

  -- a slot less
  pub remove_in : (f : Frame) (at : ℕ) → f.count ≤ 8 → FrameIn G f → FrameIn G (remove_slot f at)
  unfolding remove_slot
  remove_in f at l h =
      cond_ind (FrameIn G) (ltb at f.count) _ f
      (λ r k m. rw (tabulate_at 8 (slot_out f at) k no_capability (omega arith)) (in_k k m)) (λ r. h)
    where
      in_k : (k : ℕ) → k < f.count - 1 → Page G (slot_out f at k)
      in_k k m =
          out_cases (slot_at f) 7 no_capability at (Page G) k (λ b. h k (omega arith)) (λ b e. h (k + 1) (omega arith)) (λ b e. absurd (omega arith))

  -- a lock
  pub lock_in : (f : Frame) (i : ℕ) → FrameIn G f → FrameIn G (lock_slot f i)
  unfolding lock_slot
  lock_in f i h = cond_ind (FrameIn G) (eqb i 255) _ _ (λ e. h) (λ e. h)

  -- a registered list, merged or alone
  pub entered_in : (ch : ℕ) (f : Frame) (c : Capability) → f.locked ≤ f.count → Page G c → FrameIn G f → FrameIn G (entered ch f c)
  unfolding merge_list
  entered_in ch f c l p h =
      cond_ind (FrameIn G) (eqb ch 0) _ _
      (λ e. insert_in f _ c (cond_ind (λ n. n ≤ f.count) (eqb f.locked 0) (min 1 f.count) f.locked (λ z. omega arith) (λ z. l)) p h)
      (λ e. only_in c p)

  -- a domain saved under another frame
  pub save_in : (m : Domain) (f : Frame) → length m.saved ≡ 4 → FrameIn G f → DomainIn G m → DomainIn G (save_domain m f)
  unfolding save_domain
  save_in m f n p h =
      cond_ind (DomainIn G) (ltb m.depth 4) _ m
      (λ r. record {
        active = p;
        saved = λ k l. set_at (λ j x. FrameIn G x) m.saved m.depth m.active no_frame k (omega (arith, ltb-true m.depth 4 r)) (λ e. h.active)
            (λ ne. h.saved k (omega arith));
      }) (λ r. h)

  -- and one that comes back
  pub restore_in : (m : Domain) → DomainIn G m → DomainIn G (restore_domain m)
  unfolding restore_domain
  restore_in m h =
      cond_ind (DomainIn G) (ltb 0 m.depth && leb m.depth 4) _ m
      (λ r. let l = ltb-true 0 m.depth (and_left (ltb 0 m.depth) _ r) in
      record {
        active = h.saved (m.depth - 1) (omega arith);
        saved = λ k n. rw (get_or-set_other m.saved (m.depth - 1) k empty_frame no_frame (λ e. omega arith)) (h.saved k (omega arith));
      }) (λ r. h)
