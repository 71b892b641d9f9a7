-- REFUSAL 6: which calls the locks stop, for any call, and that the whole lock stops no other.
use Rattle.std.specs.Prelude.{ℕ, ◌<◌, ◌≡◌, Bool, true, false, not, ◌&&◌, ◌||◌, ◌⊎◌, ◌↔◌, ltb, length, Option, Some, None}
use Rattle.std.proofs.Math.Path.{refl, ap}
use Rattle.std.proofs.Common.{sym, ◌∙◌, true≢false, inl, inr, get_or-set_same}
use Rattle.std.proofs.Math.Bool.{and-true, and-false, or-true, or-false}
use mathlib.Core.Logic.Iff
use native.Mathlib.Omega.{arith}
use Rattle.std.proofs.lemmas.Bool.{not-true}
use Rattle.state.specs.Places.{no_domain, domain_at}
use Rattle.state.specs.Update.{lock_slot, with_active, with_domain}
use Rattle.state.specs.declared.Frame.{Frame}
use Rattle.soundness.specs.Sound.{sound}
use Rattle.soundness.specs.Laws.StateParts.{state_parts}
use Rattle.judge.specs.Judged.{judged}
use Rattle.judge.specs.Laws.Local.{slots_local}
use Rattle.judge.specs.declared.Target.{Target}
use Rattle.calls.specs.View.{World, View, Want, nothing, rights, first_failing, found_by, search}
use Rattle.calls.specs.Rules.{unlocked, wanted, early, late, checks, view, changes}
use Rattle.calls.specs.Step.{step, world, world_of}
use Rattle.calls.specs.Authority.{answered, Comes}
use Rattle.calls.specs.Locks.{whole_stops, slots_stop, locks_stop}
use Rattle.calls.specs.Laws.Order.{all_checks, AllHold}
use Rattle.calls.proofs.Order.{late_ascends}
use Rattle.calls.specs.Laws.Levels.{number, step_number, answers_level, to_five, six, comes_hold}
use Rattle.calls.specs.Laws.Passed.{Passes, Refuses, Does}
use Rattle.calls.proofs.Passed.{step_cases}
use Rattle.calls.proofs.Sound.{step_sound}
use Rattle.calls.specs.declared.Call.{Call}
use Rattle.calls.specs.declared.Call.TheVariants.{OnStore, OnObject, OnDomain}
use Rattle.calls.specs.declared.Access.TheVariants.{Read, Write, Execute, Lookup}
use Rattle.calls.specs.declared.ObjectCall.TheVariants.{Create, Delete, AddPassword, DropPassword, Register}
use Rattle.calls.specs.declared.DomainCall.TheVariants.{Insert, Remove, Get, Lock, PdxCall, PdxReturn}
use Rattle.calls.specs.declared.Refusal.TheVariants.{Locked}
use Rattle.calls.specs.Laws.Locks.{unlocked_is}

-- what a lock of slots stops the whole lock stops too
slots_whole : (n : ℕ) (c : Call) → (slots_stop n c || whole_stops c) ≡ whole_stops c
slots_whole n (OnStore c) = refl
slots_whole n (OnObject c) = refl
slots_whole n (OnDomain (Insert i l)) = or-true (ltb i n)
slots_whole n (OnDomain (Remove i)) = or-true (ltb i n)
slots_whole n (OnDomain Get) = refl
slots_whole n (OnDomain (Lock i)) = refl
slots_whole n (OnDomain (PdxCall a ch)) = refl
slots_whole n (OnDomain PdxReturn) = refl

-- with the whole lock the calls that it stops are stopped, without it those at a locked slot
whole_set : (f : Frame) (c : Call) → f.whole ≡ true → locks_stop f c ≡ whole_stops c
whole_set f c h = ap (λ b. slots_stop f.locked c || (whole_stops c && b)) h ∙ ap (λ b. slots_stop f.locked c || b) (and-true (whole_stops c)) ∙ slots_whole f.locked c

whole_clear : (f : Frame) (c : Call) → f.whole ≡ false → locks_stop f c ≡ slots_stop f.locked c
whole_clear f c h = ap (λ b. slots_stop f.locked c || (whole_stops c && b)) h ∙ ap (λ b. slots_stop f.locked c || b) (and-false (whole_stops c)) ∙ or-false (slots_stop f.locked c)

module _ (w : World) (d : ℕ) (c : Call) where
  abbrev frame : Frame
  frame = (domain_at w.state d).active

  six_fails : (AllHold (six w d c) → ⊥) ↔ locks_stop frame c ≡ true
  six_fails = go (locks_stop frame c) (unlocked_is c frame)
    where
      go : (b : Bool) → unlocked c frame ≡ not b → (AllHold (six w d c) → ⊥) ↔ b ≡ true
      go true e = (λ h. refl, λ h t. true≢false (sym t.0 ∙ e))
      go false e = (λ h. absurd (h (e, tt)), λ h. absurd (true≢false (sym h)))

  -- ANY CALL IS ANSWERED 6 exactly where it passes checks 2 to 5 and a lock stops it
  pub answers_six : answered w d c ≡ 6 ↔ (Comes w d c × (locks_stop frame c ≡ true))
  unfolding checks early view
  answers_six =
      Iff.trans
      (answers_level w d c Locked (to_five w d c) (six w d c) (late d c (view judged w d c)) refl (omega arith, (omega arith, (omega arith, (omega arith, tt)))) (refl, tt)
      (late_ascends d c (view judged w d c)))
      (Iff.and (comes_hold w d c) six_fails)

  -- UNDER THE WHOLE LOCK 6 is answered to AP, RG, IN, RM and CA that pass checks 2 to 5, and to no other call
  pub whole_six : frame.whole ≡ true → answered w d c ≡ 6 ↔ (Comes w d c × (whole_stops c ≡ true))
  whole_six h = Iff.trans answers_six (Iff.and Iff.rfl (λ e. sym (whole_set frame c h) ∙ e, λ e. whole_set frame c h ∙ e))

  -- WITHOUT IT to IN and RM at a locked slot
  pub slots_six : frame.whole ≡ false → answered w d c ≡ 6 ↔ (Comes w d c × (slots_stop frame.locked c ≡ true))
  slots_six h = Iff.trans answers_six (Iff.and Iff.rfl (λ e. sym (whole_clear frame c h) ∙ e, λ e. whole_clear frame c h ∙ e))

-- a call that the whole lock stops does not pass under it
pub whole_passes : (w : World) (d : ℕ) (c : Call) → (domain_at w.state d).active.whole ≡ true → Passes w d c → whole_stops c ≡ false
whole_passes w d c h p =
    let f = (domain_at w.state d).active in
    not-true (whole_stops c) (ap not (sym (whole_set f c h)) ∙ sym (unlocked_is c f) ∙ p.unlocks)

-- from 7 on no check looks at the whole lock
abbrev under_lock : View → View
under_lock v =
    record {
      domain = with_active v.domain (lock_slot v.domain.active 255);
      estate = v.estate;
      found = v.found;
      live = v.live;
      permits = v.permits;
      fits = v.fits;
    }

late_same : (d : ℕ) (c : Call) (v : View) → late d c (under_lock v) ≡ late d c v
unfolding late lock_slot
late_same d (OnStore (Read a)) v = refl
late_same d (OnStore (Write a x)) v = refl
late_same d (OnStore (Execute a)) v = refl
late_same d (OnStore (Lookup a r)) v = refl
late_same d (OnObject (Create p n k a)) v = refl
late_same d (OnObject (Delete b)) v = refl
late_same d (OnObject (AddPassword b k m)) v = refl
late_same d (OnObject (DropPassword b k)) v = refl
late_same d (OnObject (Register b k l es)) v = refl
late_same d (OnDomain (Insert i l)) v = refl
late_same d (OnDomain (Remove i)) v = refl
late_same d (OnDomain Get) v = refl
late_same d (OnDomain (Lock i)) v = refl
late_same d (OnDomain (PdxCall a ch)) v = refl
late_same d (OnDomain PdxReturn) v = refl

-- nor does check 6 of a call that it does not stop
unlocked_same : (c : Call) (f : Frame) → whole_stops c ≡ false → unlocked c (lock_slot f 255) ≡ unlocked c f
unfolding lock_slot
unlocked_same c f n =
    unlocked_is c (lock_slot f 255)
    ∙ ap (λ b. not (slots_stop f.locked c || (b && true))) n
    ∙ sym (ap (λ b. not (slots_stop f.locked c || (b && f.whole))) n)
    ∙ sym (unlocked_is c f)

module _ (w : World) (d : ℕ) (c : Call) (l : d < length w.state.domains) where
  -- the world behind a done LO 255
  abbrev locked : World
  locked = world (with_domain w.state d (with_active (domain_at w.state d) (lock_slot (domain_at w.state d).active 255))) w.words

  -- there a call sees what it saw, but for the lock
  found_there : (target : Target) (j : Option ℕ) → found_by locked target j ≡ found_by w target j
  found_there target (Some pair) = refl
  found_there target None = refl

  found_same : (want : Want) → search judged locked (lock_slot (domain_at w.state d).active 255) want ≡ search judged w (domain_at w.state d).active want
  unfolding lock_slot
  found_same nothing = refl
  found_same (rights target r) =
      found_there target (judged w.state.table w.words (lock_slot (domain_at w.state d).active 255) target r)
      ∙ ap (found_by w target)
      (slots_local w.state.table w.words (lock_slot (domain_at w.state d).active 255) (domain_at w.state d).active target r refl refl)

  view_same : view judged locked d c ≡ under_lock (view judged w d c)
  unfolding view
  view_same = rw (get_or-set_same w.state.domains d (with_active (domain_at w.state d) (lock_slot (domain_at w.state d).active 255)) no_domain l, found_same (wanted c))

  -- and makes the same checks, where the lock does not stop it
  checks_same : whole_stops c ≡ false → checks d c (view judged locked d c) ≡ checks d c (view judged w d c)
  unfolding checks early view
  checks_same n = ap (checks d c) view_same ∙ rw (late_same d c (view judged w d c), unlocked_same c (domain_at w.state d).active n)

-- THE WHOLE LOCK STOPS NO OTHER CALL: behind LO 255, done or refused, any call but AP, RG, IN, RM and CA is answered with the number that it
-- would have been answered with before
pub others_answered : (w : World) (d : ℕ) (c : Call) → whole_stops c ≡ false → answered (world_of (step w d (OnDomain (Lock 255)))) d c ≡ answered w d c
unfolding view changes
others_answered w d c n = go (step_cases w d (OnDomain (Lock 255)))
  where
    go : Refuses w (step w d (OnDomain (Lock 255))) ⊎ ((sound w.state ≡ true) × Does w d (OnDomain (Lock 255)) (step w d (OnDomain (Lock 255))))
        → answered (world_of (step w d (OnDomain (Lock 255)))) d c ≡ answered w d c
    go (inl (why, e)) = ap (λ r. answered (world_of r) d c) e
    go (inr (h, (p, e))) =
        let l : d < length w.state.domains = omega (arith, p.domain, (state_parts w.state h).long_domains) in
        let sound_locked : sound (locked w d c l).state ≡ true = rw e at (step_sound w d (OnDomain (Lock 255)) h) in
        let same_checks : all_checks (locked w d c l) d c ≡ all_checks w d c = rw (sound_locked, h, checks_same w d c l n) in
        ap (λ r. answered (world_of r) d c) e
        ∙ step_number (locked w d c l) d c
        ∙ ap (λ cs. number (first_failing cs)) same_checks
        ∙ sym (step_number w d c)
