-- A premise's test that is true gives the premise, and what a run shows is what the claim speaks of.
use Rattle.std.specs.Prelude.{ℕ, ◌≡◌, refl, Bool, true, false, not, ◌&&◌, List, [], ◌∷◌, eqb, Option, Some, None}
use Rattle.std.proofs.Common.{sym, ap, ◌∙◌, true≢false, eqb-true}
use Rattle.std.proofs.lemmas.Bool.{not-true}
use Rattle.bounded.specs.Bools.{and_left, and_right, unless}
use Rattle.bounded.specs.Every.{below_at}
use Rattle.state.specs.Places.{domain_at}
use Rattle.state.specs.declared.Table.{Table}
use Rattle.state.specs.declared.Frame.{Frame}
use Rattle.state.specs.Pages.{in_set}
use Rattle.soundness.specs.Sound.{sound}
use Rattle.soundness.specs.Laws.Tests.{all3}
use Rattle.judge.specs.Judged.{judged}
use Rattle.calls.specs.Answers.{number_of}
use Rattle.calls.specs.View.{World}
use Rattle.calls.specs.Step.{unchecked, world_of}
use Rattle.calls.specs.Boot.{home_of, set_of}
use Rattle.calls.specs.Runs.{Event, result_of, final}
use Rattle.calls.specs.Laws.Unchecked.{sound_unchecked}
use Rattle.calls.proofs.Sound.{unchecked_sound}
use Rattle.calls.specs.Laws.Plan.{in_set_account}
use Rattle.calls.specs.Laws.Booted.{boot_sound}
use Rattle.calls.specs.declared.Presented.{Presented}
use Rattle.isolation.specs.Members.{member_below}
use Rattle.isolation.specs.Group.{Group, member}
use Rattle.isolation.specs.Runs.{Run, start_of, answers, members_calls}
use Rattle.isolation.specs.Premises.{HeldInside, FrameInside, SlotsInside, ListsInside, Judges, OutsiderCall, StatePremise, CallPremise, Along, AccountsApart, SameAccounts}
use Rattle.isolation.specs.Claim.{Comparable}
use Rattle.isolation_examples.specs.Tests.{frame_test, slots_test, state_test, held_test, pairs_test, lists_test, judges_test, lists_when, granted_test, RunTests, both, call_tests, trace_by, Tests, homes_test, accounts_test, apart_test, boot_test, trace_of, tests_by, all_true}

-- the slots of a frame, of a domain and of each member
frame_holds : (G : Group) (t : Table) (f : Frame) → frame_test G t f ≡ true → FrameInside G t f
unfolding frame_test
frame_holds G t f h k l = below_at f.count _ h k l

slots_holds : (G : Group) (w : World) (d : ℕ) → slots_test G w d ≡ true → SlotsInside G w d
unfolding slots_test
slots_holds G w d h =
    record {
      slots = frame_holds G w.state.table _ (and_left (frame_test G w.state.table (domain_at w.state d).active) _ h);
      saved =
          λ k l. frame_holds G w.state.table _
          (below_at _ _ (and_right (frame_test G w.state.table (domain_at w.state d).active) _ h) k l);
    }

state_holds : (G : Group) (w : World) → state_test G w ≡ true → StatePremise G w
unfolding state_test
state_holds G w h =
    record { members = λ d m. slots_holds G w d (unless (not (member G d)) _ (below_at 4 _ h d (member_below G d m)) (rw m)) }

-- what a call holds, and the lists that it searches
held_holds : (G : Group) (t : Table) (l : Option Presented) → held_test G t l ≡ true → HeldInside G t l
unfolding held_test
held_holds G t None h = tt
held_holds G t (Some l) h = h

lists_holds : (G : Group) (w : World) (f : Frame) → lists_test G w f ≡ true → ListsInside G w f
unfolding lists_test pairs_test
lists_holds G w f h slot place s p = below_at _ _ (below_at 8 _ h slot s) place p

-- a call that judges passes the test
judges_test_lem : (w : World) (e : Event) → Judges w e → judges_test w e ≡ true
unfolding judges_test
judges_test_lem w e j = rw (j.reached, j.asks)

when_holds : (G : Group) (w : World) (e : Event) (f : Frame) → lists_when (judges_test w e) G w f ≡ true → Judges w e → ListsInside G w f
unfolding lists_when
when_holds G w e f h j = lists_holds G w f (rw (judges_test_lem w e j) at h)

granted_holds : (G : Group) (w : World) (e : Event) → granted_test G e (result_of w e) ≡ true → OutsiderCall G w e
unfolding granted_test
granted_holds G w e h =
    record { granted = λ z. not-true _ (unless (not (eqb (number_of (result_of w e).outcome.answer) 0)) _ h (rw z)) }

-- the tests along a run are all true
pub record AllTrue (t : RunTests) : Type 0 where
  pub slots : t.slots ≡ true
  pub held : t.held ≡ true
  pub lists : t.lists ≡ true
  pub granted : t.granted ≡ true

both_left : (a b : RunTests) → AllTrue (both a b) → AllTrue a
both_left a b t =
    record {
      slots = and_left a.slots _ t.slots;
      held = and_left a.held _ t.held;
      lists = and_left a.lists _ t.lists;
      granted = and_left a.granted _ t.granted;
    }

both_right : (a b : RunTests) → AllTrue (both a b) → AllTrue b
both_right a b t =
    record {
      slots = and_right a.slots _ t.slots;
      held = and_right a.held _ t.held;
      lists = and_right a.lists _ t.lists;
      granted = and_right a.granted _ t.granted;
    }

-- then so are the premises at a call
call_holds : (G : Group) (w : World) (e : Event) (b : Bool) → member G e.domain ≡ b → AllTrue (call_tests b G w e (result_of w e))
    → StatePremise G w × CallPremise G w e
unfolding call_tests
call_holds G w e true m a = (
  state_holds G w a.slots,
  record {
    of_member = λ n. record { held = held_holds G _ _ a.held; lists = when_holds G w e _ a.lists };
    of_outsider = λ n. absurd (true≢false (sym m ∙ n));
  },
)
call_holds G w e false m a = (
  state_holds G w a.slots,
  record { of_member = λ n. absurd (true≢false (sym n ∙ m)); of_outsider = λ n. granted_holds G w e a.granted },
)

-- and all along, in a run that starts sound: check 3 does not matter there
along_holds : (G : Group) (w : World) → sound w.state ≡ true → (es : List Event) → AllTrue (trace_by judged G w es).tests → Along G w es
unfolding trace_by
along_holds G w h [] a = state_holds G w a.slots
along_holds G w h (e ∷ es) a =
    let r = unchecked w e.domain e.call in
    let same = sound_unchecked w e.domain e.call h in
    let (state, call) = call_holds G w e (member G e.domain) refl (rw same (both_left (call_tests (member G e.domain) G w e r) _ a)) in (
      state,
      (
        call,
        rw same (along_holds G (world_of r) (unchecked_sound w e.domain e.call h) es (both_right (call_tests (member G e.domain) G w e r) _ a)),
      ),
    )

-- the answers and the last world are those of the claim
pub trace_answers : (G : Group) (w : World) → sound w.state ≡ true → (es : List Event) → (trace_by judged G w es).answers ≡ answers G w es
unfolding trace_by answers
trace_answers G w h [] = refl
trace_answers G w h (e ∷ es) =
    rw (
      sound_unchecked w e.domain e.call h,
      trace_answers G (world_of (unchecked w e.domain e.call)) (unchecked_sound w e.domain e.call h) es,
    )

pub trace_last : (G : Group) (w : World) → sound w.state ≡ true → (es : List Event) → (trace_by judged G w es).last ≡ final w es
unfolding trace_by final
trace_last G w h [] = refl
trace_last G w h (e ∷ es) =
    rw (sound_unchecked w e.domain e.call h) (trace_last G (world_of (unchecked w e.domain e.call)) (unchecked_sound w e.domain e.call h) es)

homes_hold : (G : Group) (r r' : Run) → homes_test G r r' ≡ true → (d : ℕ) → member G d ≡ true → home_of r.plan d ≡ home_of r'.plan d
unfolding homes_test
homes_hold G r r' h d m = eqb-true _ _ (unless (not (member G d)) _ (below_at 4 _ h d (member_below G d m)) (rw m))

accounts_hold : (plan plan' : List ℕ) (d : ℕ) → accounts_test plan plan' d ≡ true → SameAccounts plan plan' d
unfolding accounts_test
accounts_hold plan plan' d h =
    let (home, set, limit) = all3 _ _ _ h in
    record {
      home = eqb-true _ _ home;
      set = eqb-true _ _ set;
      limit = λ a c. eqb-true _ _ (unless (not (in_set (set_of plan d) a)) _ (below_at 4 _ limit a (in_set_account (set_of plan d) a c)) (rw c));
    }

apart_holds : (G : Group) (plan : List ℕ) → apart_test G plan ≡ true → AccountsApart G (set_of plan)
unfolding apart_test
apart_holds G plan h d e a m o l c =
    let own = unless (not (member G d)) _ (below_at 4 _ h d (member_below G d m)) (rw m) in
    let both : in_set (set_of plan d) a && in_set (set_of plan e) a ≡ false =
    not-true _ (below_at 4 _ (unless (member G e) _ (below_at 4 _ own e l) o) a (in_set_account (set_of plan d) a c)) in
    rw c at both

-- two runs whose tests are all true, with the same members' calls, are comparable
pub tests_hold : (G : Group) (r r' : Run) → tests_by judged G r r' ≡ all_true → members_calls G r ≡ members_calls G r' → Comparable G r r'
tests_hold G r r' h c =
    let b = ap (λ (t : Tests). t.booted) h in
    let x = ap (λ (t : Tests). t.apart) h in
    let a : AllTrue (both (trace_of judged G r).tests (trace_of judged G r').tests) =
    record {
      slots = ap (λ (t : Tests). t.slots) h;
      held = ap (λ (t : Tests). t.held) h;
      lists = ap (λ (t : Tests). t.lists) h;
      granted = ap (λ (t : Tests). t.granted) h;
    } in
    record {
      booted = eqb-true _ _ (and_left (boot_test r) _ b);
      booted' = eqb-true _ _ (and_right (boot_test r) _ b);
      homes = homes_hold G r r' (ap (λ (t : Tests). t.homes) h);
      accounts = λ d m.
          accounts_hold r.plan r'.plan d
          (unless (not (member G d)) _ (below_at 4 _ (ap (λ (t : Tests). t.accounts) h) d (member_below G d m)) (rw m));
      apart = apart_holds G r.plan (and_left (apart_test G r.plan) _ x);
      apart' = apart_holds G r'.plan (and_right (apart_test G r.plan) _ x);
      calls = c;
      premises = along_holds G (start_of r) (boot_sound _ _ _) r.events (both_left _ (trace_of judged G r').tests a);
      premises' = along_holds G (start_of r') (boot_sound _ _ _) r'.events (both_right (trace_of judged G r).tests _ a);
    }
