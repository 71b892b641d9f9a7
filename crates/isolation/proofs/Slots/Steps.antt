-- A call whose premise is met leaves slots and registered lists that name pages inside.
use Rattle.std.specs.Prelude.{ℕ, ◌/◌, ◌<◌, ◌≡◌, refl, true}
use Rattle.std.proofs.Common.{sym, ◌∙◌, true≢false, arith, leb-true, lt-ltb}
use Rattle.std.proofs.Math.Logic.{⊎_elim}
use Rattle.bounded.specs.Bools.{flag}
use Rattle.rights.specs.Modes.{destroy, owner}
use Rattle.state.specs.Places.{estate_at, domain_at}
use Rattle.state.specs.Update.{new_object, add_password, with_object, remove_object, with_active}
use Rattle.soundness.specs.Sound.{sound}
use Rattle.soundness.specs.Laws.DomainParts.{FrameSound, frame_parts, domain_parts}
use Rattle.soundness.specs.Laws.StateParts.{state_parts}
use Rattle.state.specs.declared.Object.{Object}
use Rattle.state.specs.declared.Frame.{Frame}
use Rattle.judge.specs.Judged.{judged}
use Rattle.judge.specs.declared.Target.TheVariants.{Base}
use Rattle.calls.specs.Answers.{number_of}
use Rattle.calls.specs.View.{rights, World, search, object_of, estate_found}
use Rattle.calls.specs.Changes.{capability, registration}
use Rattle.calls.specs.Rules.{touched, wanted, early, view, late, changes}
use Rattle.calls.specs.Runs.{result_of}
use Rattle.calls.specs.Laws.Passed.{Passes}
use Rattle.calls.specs.declared.Call.{Call}
use Rattle.calls.specs.declared.Call.TheVariants.{OnStore, OnObject, OnDomain}
use Rattle.calls.specs.declared.Access.TheVariants.{Read, Write, Execute, Lookup}
use Rattle.calls.specs.declared.ObjectCall.TheVariants.{Create, Delete, AddPassword, DropPassword, Register}
use Rattle.calls.specs.declared.DomainCall.TheVariants.{Insert, Remove, Get, Lock, PdxCall, PdxReturn}
use Rattle.isolation.specs.Group.{Group, member}
use Rattle.isolation.specs.Premises.{wants, Judges, CallPremise}
use Rattle.isolation.specs.Kept.{insert_each, becomes_each, goes_each, AllKeep, step_keeps}
use Rattle.isolation.proofs.Seen.{live_inside}
use Rattle.isolation.proofs.Slots.Inside.{FrameIn, DomainIn, ObjectIn, EstateIn, Member, StateIn}
use Rattle.isolation.proofs.Slots.Frames.{insert_in, remove_in, lock_in, entered_in, save_in, restore_in}
use Rattle.isolation.proofs.Slots.Objects.{free_in, none_in, drop_in, called_in}

module _ (G : Group) where
  module _ (w : World) (d : ℕ) (h : sound w.state ≡ true) (i : StateIn G w.state) where
    abbrev frame : Frame
    frame = (domain_at w.state d).active

    -- the domain of a member that passes, and its frame
    fits : d < 4 → FrameSound frame
    fits l = frame_parts _ (domain_parts _ ((state_parts w.state h).domain d l)).active

    -- another frame
    active_in : (f : Frame) → (member G d ≡ true → FrameIn G f) → member G d ≡ true → DomainIn G (with_active (domain_at w.state d) f)
    active_in f p m = record { active = p m; saved = (i.domains d m).saved }

    -- another object in the place of one that was found
    becomes_in : (b r place : ℕ) (o : Object) → (ObjectIn G (object_of (search judged w frame (rights (Base b) r))) → member G (b / 32) ≡ true → ObjectIn G o)
        → member G (b / 32) ≡ true → EstateIn G (with_object (estate_found (search judged w frame (rights (Base b) r))) place o)
    becomes_in b r place o p m = becomes_each (ObjectIn G) (free_in G) (none_in G) w frame b r (i.estates (b / 32) m) place o (λ q. p q m)

    -- and that one gone
    goes_in : (b r place : ℕ) → member G (b / 32) ≡ true → EstateIn G (remove_object (estate_found (search judged w frame (rights (Base b) r))) place)
    goes_in b r place m = goes_each (ObjectIn G) (free_in G) (none_in G) w frame b r (i.estates (b / 32) m) place

    -- a call that passes gets as far as judging
    judges : (c : Call) → Passes w d c → wants (wanted c) ≡ true → Judges w (record { domain = d; call = c })
    unfolding early
    judges c s a = record { reached = rw (lt-ltb d 4 s.domain, s.range, s.unlocks); asks = a }

    -- of a done call
    done_in : (c : Call) → CallPremise G w (record { domain = d; call = c }) → number_of (result_of w (record { domain = d; call = c })).outcome.answer ≡ 0
        → Passes w d c → AllKeep (Member G) (ObjectIn G) (DomainIn G) (changes d c (view judged w d c))
    unfolding changes view late registration new_object add_password touched
    done_in (OnStore (Read a)) p z s = tt
    done_in (OnStore (Write a x)) p z s = (tt, tt)
    done_in (OnStore (Execute a)) p z s = tt
    done_in (OnStore (Lookup a r)) p z s = tt
    done_in (OnObject (Create a n k u)) p z s = (
      λ m. insert_each (ObjectIn G) (free_in G) (none_in G) (estate_at w.state.table d) (new_object a n k u) (λ q. absurd (omega arith)) (i.estates d m),
      (tt, tt),
    )
    done_in (OnObject (Delete b)) p z s = (goes_in b destroy _, tt)
    done_in (OnObject (AddPassword b k x)) p z s = (becomes_in b owner _ _ (λ o m. o), tt)
    done_in (OnObject (DropPassword b k)) p z s = (becomes_in b owner _ _ (λ o m. drop_in G _ k o), tt)
    done_in (OnObject (Register b k l es)) p z s = (
      becomes_in b owner _ _ (λ o m q.
          ⊎_elim (λ t. live_inside G w.state.table (capability l) (p.of_member t).held s.rest.1.0)
          (λ f. absurd (true≢false (sym m ∙ (p.of_outsider f).granted z))) (flag (member G d))),
      tt,
    )
    done_in (OnDomain (Insert j l)) p z s = (
      active_in _ (λ m. insert_in G frame j (capability l) (leb-true j _ s.rest.1.1.0)
          (live_inside G w.state.table (capability l) (p.of_member m).held s.rest.0) (i.domains d m).active),
      tt,
    )
    done_in (OnDomain (Remove j)) p z s = (active_in _ (λ m. remove_in G frame j (fits s.domain).fits (i.domains d m).active), tt)
    done_in (OnDomain Get) p z s = tt
    done_in (OnDomain (Lock j)) p z s = (active_in _ (λ m. lock_in G frame j (i.domains d m).active), tt)
    done_in (OnDomain (PdxCall a ch)) p z s = (
      λ m.
          let list = called_in G w frame a h ((p.of_member m).lists (judges (OnDomain (PdxCall a ch)) s refl)) i s.rest.0 in
          save_in G _ _ (domain_parts _ ((state_parts w.state h).domain d s.domain)).long
          (entered_in G ch frame _ (fits s.domain).locks list (i.domains d m).active) (i.domains d m),
      tt,
    )
    done_in (OnDomain PdxReturn) p z s = (λ m. restore_in G _ (i.domains d m), tt)

    -- so after every call
    pub step_in : (c : Call) → CallPremise G w (record { domain = d; call = c }) → StateIn G (result_of w (record { domain = d; call = c })).outcome.state
    step_in c p = step_keeps (Member G) (ObjectIn G) (DomainIn G) w d c (done_in c p) i
