-- The changes of a protection domain keep it sound, and another sound domain keeps the state sound.
use Rattle.std.specs.Prelude.{ℕ, ◌-◌, ◌≡◌, refl, true, false, ◌&&◌, leb, ltb}
use Rattle.std.proofs.Common.{arith, length-set, ltb-true}
use Rattle.std.proofs.lemmas.List.{get_or-replicate}
use Rattle.bounded.specs.Bools.{and_left, cond_ind}
use Rattle.bounded.specs.Every.{set_at}
use Rattle.state.specs.Places.{no_frame, no_domain, empty_frame, empty_domain}
use Rattle.state.specs.Update.{with_active, save_domain, restore_domain, with_domain}
use Rattle.soundness.specs.Sound.{frame_ok, domain_ok, sound}
use Rattle.soundness.specs.Laws.DomainParts.{empty_frame_lem, domain_parts, parts_domain}
use Rattle.soundness.specs.Laws.StateParts.{state_parts, parts_state}
use Rattle.state.specs.declared.Frame.{Frame}
use Rattle.state.specs.declared.Domain.{Domain}
use Rattle.state.specs.declared.State.{State}

-- another sound frame
pub active_sound : (m : Domain) (f : Frame) → frame_ok false f ≡ true → domain_ok m ≡ true → domain_ok (with_active m f) ≡ true
active_sound m f p h =
    let q = domain_parts m h in
    parts_domain _ (record { long = q.long; active = p; deep = q.deep; saved = q.saved; past = q.past })

-- a domain saved, and another sound frame in its place
pub save_sound : (m : Domain) (f : Frame) → frame_ok false f ≡ true → domain_ok m ≡ true → domain_ok (save_domain m f) ≡ true
unfolding save_domain
save_sound m f p h =
    let q = domain_parts m h in
    cond_ind (λ x. domain_ok x ≡ true) (ltb m.depth 4) _ m
    (λ r. let room = ltb-true m.depth 4 r in
    parts_domain _
    (record {
      long = simp length-set q.long;
      active = p;
      deep = omega arith;
      saved = λ k l.
          set_at (λ _ x. frame_ok false x ≡ true) m.saved m.depth m.active no_frame k (omega arith)
          (λ e. q.active) (λ ne. q.saved k (omega arith));
      past = λ k l n.
          set_at (λ _ x. x ≡ empty_frame) m.saved m.depth m.active no_frame k (omega arith) (λ e. absurd (omega arith))
          (λ ne. q.past k l (omega arith));
    }))
    (λ r. h)

-- the last saved domain comes back, and leaves zeros
pub restore_sound : (m : Domain) → domain_ok m ≡ true → domain_ok (restore_domain m) ≡ true
unfolding restore_domain
restore_sound m h =
    let q = domain_parts m h in
    cond_ind (λ x. domain_ok x ≡ true) (ltb 0 m.depth && leb m.depth 4) _ m
    (λ r. let some = ltb-true 0 m.depth (and_left _ _ r) in
    parts_domain _
    (record {
      long = simp length-set q.long;
      active = q.saved (m.depth - 1) (omega arith);
      deep = omega (arith, q.deep);
      saved = λ k l.
          set_at (λ _ x. frame_ok false x ≡ true) m.saved (m.depth - 1) empty_frame no_frame k (omega (arith, q.deep, q.long))
          (λ e. empty_frame_lem false) (λ ne. q.saved k (omega arith));
      past = λ k l n.
          set_at (λ _ x. x ≡ empty_frame) m.saved (m.depth - 1) empty_frame no_frame k (omega (arith, q.long)) (λ e. refl)
          (λ ne. q.past k l (omega arith));
    }))
    (λ r. h)

-- a domain with no slots and nothing saved
pub empty_domain_lem : domain_ok empty_domain ≡ true
empty_domain_lem =
    parts_domain empty_domain
    (record {
      long = refl;
      active = empty_frame_lem false;
      deep = omega arith;
      saved = λ k l. absurd (omega arith);
      past = λ k l n. get_or-replicate 4 k empty_frame no_frame l;
    })

-- another sound domain
pub with_domain_sound : (s : State) (d : ℕ) (m : Domain) → domain_ok m ≡ true → sound s ≡ true → sound (with_domain s d m) ≡ true
with_domain_sound s d m p h =
    let q = state_parts s h in
    parts_state _
    (record {
      long_estates = q.long_estates;
      long_domains = simp length-set q.long_domains;
      estate = q.estate;
      domain = λ k l. set_at (λ _ x. domain_ok x ≡ true) s.domains d m no_domain k (omega arith) (λ e. p) (λ ne. q.domain k l);
      accounts = q.accounts;
    })
