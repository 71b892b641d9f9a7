-- What demand 3 comes to for one domain, for the empty group, and for all four domains.
use Rattle.std.specs.Prelude.{ℕ, ◌/◌, ◌<◌, ◌≡◌, refl, true, false, List, [], ◌∷◌, ◌⊎◌, ltb, eqb, Option, Some, None}
use Rattle.std.proofs.Common.{sym, ap, subst, ◌∙◌, true≢false, inl, inr, ⊎_elim, arith, ltb-false, eqb-true, lt-ltb}
use Rattle.std.proofs.Math.ListN.{get_or-eq_default}
use Rattle.std.proofs.lemmas.List.{get_or-replicate}
use Rattle.std.proofs.lemmas.Bool.{eqb-false}
use Rattle.bounded.specs.Bools.{and_right, or_unless, flag}
use Rattle.state.specs.Places.{no_password, no_estate, free_object}
use Rattle.state.specs.Lookup.{object_based, place_of, has_password}
use Rattle.state.specs.Laws.Passwords.{Ordinary, has_parts}
use Rattle.state.specs.Laws.Lookup.{based_none}
use Rattle.soundness.specs.Sound.{sound}
use Rattle.soundness.specs.Laws.StateParts.{state_parts}
use Rattle.state.specs.declared.State.{State}
use Rattle.calls.specs.Answers.{number_of}
use Rattle.calls.specs.View.{World}
use Rattle.calls.specs.Rule.{Touch, touches_nothing, touches_word, touches_object, touches_slots}
use Rattle.calls.specs.Rules.{touched, presented, early, checks}
use Rattle.calls.specs.Step.{world_of, step}
use Rattle.calls.specs.Runs.{Event, result_of}
use Rattle.calls.specs.Laws.Order.{done_hold}
use Rattle.calls.specs.Laws.Booted.{boot_sound}
use Rattle.calls.proofs.Sound.{step_sound}
use Rattle.calls.specs.declared.Call.{Call}
use Rattle.calls.specs.declared.Presented.{Presented}
use Rattle.isolation.specs.Group.{Group, member}
use Rattle.isolation.specs.Runs.{Run, start_of, members_only, members_calls}
use Rattle.isolation.specs.Premises.{stays_inside, HeldInside, touches_inside, changes_inside}
use Rattle.isolation.specs.Claim.{Isolated}
use Rattle.isolation.specs.Members.{member_below}
use Rattle.isolation.proofs.Theorem.{isolation}
use Rattle.isolation.specs.Slots.{CallsAlong}
use Rattle.isolation.specs.Consequences.{Booted, CallsMeet, BootedAlike, Apart, only, Unshared, nobody, nobody_member, everyone, everyone_member}
use Rattle.isolation.proofs.Slots.{slots_follow}

-- DEMAND 3 WITH NOTHING ASKED OF SLOTS: the premises on the calls are enough.
pub isolation_by_calls : (G : Group) (r r' : Run) → Booted r → Booted r' → ((d : ℕ) → member G d ≡ true → BootedAlike r r' d)
    → Apart G r → Apart G r' → members_calls G r ≡ members_calls G r' → CallsMeet G r → CallsMeet G r' → Isolated G r r'
isolation_by_calls G r r' b b' alike apart apart' calls p p' =
    isolation G r r'
    (record {
      booted = b;
      booted' = b';
      homes = λ d m. (alike d m).home;
      accounts = λ d m. (alike d m).accounts;
      apart = apart;
      apart' = apart';
      calls = calls;
      premises = slots_follow G r p;
      premises' = slots_follow G r' p';
    })

only_apart : (d : ℕ) (r : Run) → Unshared r d → Apart (only d) r
unfolding member
only_apart d r h c e a m o l =
    let q : d ≡ c = eqb-true d c (and_right (ltb c 4) (eqb d c) m) in
    rw (← q) (h e a l (eqb-false d e (rw (lt-ltb e 4 l) at o)))

-- WHAT A MODULE SEES DEPENDS ON ITS OWN CALLS: in two runs whose calls meet the premises, where a domain is booted alike and shares no
-- account, with the same calls of that domain it gets the same answers and ends with the same words, objects, slots, locks and saved
-- domains. Of its slots nothing is asked.
pub alone_same : (d : ℕ) (r r' : Run) → Booted r → Booted r' → BootedAlike r r' d → Unshared r d → Unshared r' d
    → members_calls (only d) r ≡ members_calls (only d) r' → CallsMeet (only d) r → CallsMeet (only d) r' → Isolated (only d) r r'
unfolding member
alone_same d r r' b b' alike own own' =
    isolation_by_calls (only d) r r' b b'
    (λ e m. let q : d ≡ e = eqb-true d e (and_right (ltb e 4) (eqb d e) m) in subst (BootedAlike r r') q alike)
    (only_apart d r own) (only_apart d r' own')

nobody_calls : (es : List Event) → members_only nobody es ≡ []
unfolding members_only
nobody_calls [] = refl
nobody_calls (e ∷ es) = rw (nobody_member e.domain) (nobody_calls es)

-- and nothing inside, so no outsider's call is a change inside
nobody_touches : (x : Touch) → touches_inside nobody x ≡ false
nobody_touches touches_nothing = refl
nobody_touches (touches_word a) = nobody_member _
nobody_touches (touches_object b) = nobody_member _
nobody_touches touches_slots = refl

nobody_changes : (c : Call) → changes_inside nobody c ≡ false
nobody_changes c = nobody_touches (touched c)

nobody_meets : (es : List Event) (w : World) → CallsAlong nobody w es
nobody_meets [] w = tt
nobody_meets (e ∷ es) w = (
  record {
    of_member = λ m. absurd (true≢false (sym m ∙ nobody_member e.domain));
    of_outsider = λ o. record { granted = λ z. nobody_changes e.call };
  },
  nobody_meets es (world_of (result_of w e)),
)

-- OF THE EMPTY GROUP NOTHING IS ASKED: any two runs do.
pub nobody_same : (r r' : Run) → Booted r → Booted r' → Isolated nobody r r'
nobody_same r r' b b' =
    isolation_by_calls nobody r r' b b' (λ d m. absurd (true≢false (sym m ∙ nobody_member d)))
    (λ d e a m. absurd (true≢false (sym m ∙ nobody_member d))) (λ d e a m. absurd (true≢false (sym m ∙ nobody_member d)))
    (rw (nobody_calls r.events, nobody_calls r'.events))
    (nobody_meets r.events (start_of r)) (nobody_meets r'.events (start_of r'))

-- a free object has no password
free_password : (word : ℕ) → has_password free_object word ≡ false
free_password word = ⊎_elim (λ t. absurd (no (has_parts free_object word t))) (λ f. f) (flag (has_password free_object word))
  where
    no : (0 < word) × ((0 ≡ word) ⊎ Ordinary free_object word) → ⊥
    no (p, inl e) = omega arith
    no (p, inr o) = omega (arith, ap (λ x. x.word) (get_or-replicate 4 (place_of free_object word) no_password no_password o.within))

-- a page below 128 is inside, and no object has a base above: no capability is true outside
everyone_stays : (s : State) → sound s ≡ true → (page password : ℕ) → stays_inside everyone s.table page password ≡ true
unfolding stays_inside object_based
everyone_stays s h page password =
    or_unless _ _
    (λ o. let above = ltb-false (page / 32) 4 (sym (everyone_member (page / 32)) ∙ o) in
    let past = get_or-eq_default s.table.estates no_estate {n = page / 32} (omega (arith, (state_parts s h).long_estates)) in
    rw (past, based_none page, free_password password))

everyone_holds : (s : State) → sound s ≡ true → (o : Option Presented) → HeldInside everyone s.table o
everyone_holds s h None = tt
everyone_holds s h (Some l) = everyone_stays s h l.page l.password

-- a done call is one of a member's: a number above 3 is refused
done_below : (w : World) (d : ℕ) (c : Call) → number_of (step w d c).outcome.answer ≡ 0 → ltb d 4 ≡ true
unfolding checks early
done_below w d c z = ((done_hold w d c).0 z).1.1.0

everyone_meets : (es : List Event) (w : World) → sound w.state ≡ true → CallsAlong everyone w es
everyone_meets [] w h = tt
everyone_meets (e ∷ es) w h = (
  record {
    of_member = λ m. record {
      held = everyone_holds w.state h (presented e.call);
      lists = λ j slot place l n. everyone_stays w.state h _ _;
    };
    of_outsider = λ o. record {
      granted = λ z. absurd (true≢false (sym (done_below w e.domain e.call z) ∙ sym (everyone_member e.domain) ∙ o));
    };
  },
  everyone_meets es (world_of (result_of w e)) (step_sound w e.domain e.call h),
)

-- every domain is inside, so no account may be charged from outside
everyone_apart : (r : Run) → Apart everyone r
everyone_apart r d e a m o l = absurd (true≢false (sym (lt-ltb e 4 l) ∙ sym (everyone_member e) ∙ o))

-- A RUN IS DETERMINED BY WHAT THE FOUR DOMAINS ARE BOOTED WITH AND BY THEIR CALLS: nothing further is asked. The store before the boot, who
-- boots, the limits of accounts that nobody may charge, and the calls by domain numbers above 3 do not matter.
pub everyone_same : (r r' : Run) → Booted r → Booted r' → ((d : ℕ) → d < 4 → BootedAlike r r' d)
    → members_calls everyone r ≡ members_calls everyone r' → Isolated everyone r r'
everyone_same r r' b b' alike calls =
    isolation_by_calls everyone r r' b b' (λ d m. alike d (member_below everyone d m)) (everyone_apart r) (everyone_apart r') calls
    (everyone_meets r.events (start_of r) (boot_sound r.store r.booter r.plan))
    (everyone_meets r'.events (start_of r') (boot_sound r'.store r'.booter r'.plan))
