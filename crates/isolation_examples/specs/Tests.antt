-- The premises as tests that compute: of a state, of a call, of a run and of two runs.
use Rattle.std.specs.Prelude.{ℕ, ◌+◌, ◌*◌, ◌/◌, Bool, true, false, not, cond, ◌&&◌, ◌||◌, List, [], ◌∷◌, eqb, length, get_or, Option, Some, None}
use Rattle.bounded.specs.Every.{below}
use Rattle.state.specs.Places.{slot_at, saved_at, domain_at}
use Rattle.state.specs.Pages.{in_set}
use Rattle.state.specs.declared.Table.{Table}
use Rattle.state.specs.declared.Frame.{Frame}
use Rattle.clists.specs.Clist.{list_at}
use Rattle.calls.specs.Answers.{number_of}
use Rattle.calls.specs.View.{World, Judging, first_failing}
use Rattle.calls.specs.Rules.{wanted, presented, early}
use Rattle.calls.specs.Step.{Result, unchecked_by, world_of, answer_of}
use Rattle.calls.specs.Boot.{home_of, limit_of, account_of, set_of}
use Rattle.calls.specs.Runs.{Event}
use Rattle.cases.specs.Runs.{answers_by}
use Rattle.calls.specs.declared.Refusal.{Refusal}
use Rattle.calls.specs.declared.Presented.{Presented}
use Rattle.isolation.specs.Group.{Group, member}
use Rattle.isolation.specs.Runs.{Run, boot_result, start_of, members_only}
use Rattle.isolation.specs.Premises.{stays_inside, wants, changes_inside}

-- each slot of a frame, and each slot and saved slot of a domain, is true for nothing outside
unfoldable pub frame_test : Group → Table → Frame → Bool
frame_test G t f = below f.count (λ k. stays_inside G t (slot_at f k).page (slot_at f k).password)

unfoldable pub slots_test : Group → World → ℕ → Bool
slots_test G w d =
    frame_test G w.state.table (domain_at w.state d).active
    && below (domain_at w.state d).depth (λ k. frame_test G w.state.table (saved_at (domain_at w.state d) k))

-- so of each member
unfoldable pub state_test : Group → World → Bool
state_test G w = below 4 (λ d. not (member G d) || slots_test G w d)

-- so of the capability that a call holds
unfoldable pub held_test : Group → Table → Option Presented → Bool
held_test G t None = true
held_test G t (Some l) = stays_inside G t l.page l.password

-- so of each pair of a list of words
unfoldable pub pairs_test : Group → Table → List ℕ → Bool
pairs_test G t list = below (length list / 2) (λ place. stays_inside G t (get_or list (2 * place) 0 / 256) (get_or list (2 * place + 1) 0))

-- and of the lists at a frame's slots
unfoldable pub lists_test : Group → World → Frame → Bool
lists_test G w f = below 8 (λ slot. pairs_test G w.state.table (list_at w.state.table w.words f slot))

-- a call is judged: no check before that fails, and it wants rights
abbrev pub passed_all : Option Refusal → Bool
passed_all None = true
passed_all (Some r) = false

unfoldable pub judges_test : World → Event → Bool
judges_test w e = passed_all (first_failing (early e.domain e.call (domain_at w.state e.domain).active)) && wants (wanted e.call)

-- a test that is made only where it is asked for
unfoldable pub lists_when : Bool → Group → World → Frame → Bool
lists_when true G w f = lists_test G w f
lists_when false G w f = true

-- a call is refused, or makes no change inside
unfoldable pub granted_test : Group → Event → Result → Bool
granted_test G e r = not (eqb (number_of r.outcome.answer) 0) || not (changes_inside G e.call)

-- what is tested all along a run: each member's slots, and of a member's call what it holds and the lists that it searches, of an outsider's
-- what it changes
pub record RunTests : Type 0 where
  pub slots : Bool
  pub held : Bool
  pub lists : Bool
  pub granted : Bool

-- both tests
abbrev pub both : RunTests → RunTests → RunTests
both a b = record { slots = a.slots && b.slots; held = a.held && b.held; lists = a.lists && b.lists; granted = a.granted && b.granted }

-- in the last world
abbrev pub last_tests : Group → World → RunTests
last_tests G w = record { slots = state_test G w; held = true; lists = true; granted = true }

-- at a call, of a member or not
unfoldable pub call_tests : Bool → Group → World → Event → Result → RunTests
call_tests true G w e r =
    record {
      slots = state_test G w;
      held = held_test G w.state.table (presented e.call);
      lists = lists_when (judges_test w e) G w (domain_at w.state e.domain).active;
      granted = true;
    }
call_tests false G w e r = record { slots = state_test G w; held = true; lists = true; granted = granted_test G e r }

-- what a run shows: its tests, the members' answers, and the last world; computed without check 3
pub record Trace : Type 0 where
  pub tests : RunTests
  pub answers : List (List ℕ)
  pub last : World

unfoldable pub trace_by : Judging → Group → World → List Event → Trace
trace_by judging G w [] = record { tests = last_tests G w; answers = []; last = w }
trace_by judging G w (e ∷ es) =
    let r = unchecked_by judging w e.domain e.call in
    let m = member G e.domain in
    let c = call_tests m G w e r in
    let t = trace_by judging G (world_of r) es in
    record { tests = both c t.tests; answers = cond m (answer_of r ∷ t.answers) t.answers; last = t.last }

-- what two runs show: each premise's test, in both of them; the members' calls are compared apart
pub record Tests : Type 0 where
  pub booted : Bool
  pub homes : Bool
  pub accounts : Bool
  pub apart : Bool
  pub slots : Bool
  pub held : Bool
  pub lists : Bool
  pub granted : Bool

unfoldable pub homes_test : Group → Run → Run → Bool
homes_test G r r' = below 4 (λ d. not (member G d) || eqb (home_of r.plan d) (home_of r'.plan d))

-- a domain has the same home account and the same set, and the accounts in the set the same limits
unfoldable pub accounts_test : List ℕ → List ℕ → ℕ → Bool
accounts_test plan plan' d =
    eqb (account_of plan d) (account_of plan' d)
    && eqb (set_of plan d) (set_of plan' d)
    && below 4 (λ a. not (in_set (set_of plan d) a) || eqb (limit_of plan a) (limit_of plan' a))

-- no account is in the set of a member and in the set of an outsider
unfoldable pub apart_test : Group → List ℕ → Bool
apart_test G plan =
    below 4 (λ d. not (member G d) || below 4 (λ e. member G e || below 4 (λ a. not (in_set (set_of plan d) a && in_set (set_of plan e) a))))

abbrev pub boot_test : Run → Bool
boot_test r = eqb (number_of (boot_result r).outcome.answer) 0

abbrev pub trace_of : Judging → Group → Run → Trace
trace_of judging G r = trace_by judging G (start_of r) r.events

abbrev pub tests_of : Group → Run → Run → RunTests → Tests
tests_of G r r' t =
    record {
      booted = boot_test r && boot_test r';
      homes = homes_test G r r';
      accounts = below 4 (λ d. not (member G d) || accounts_test r.plan r'.plan d);
      apart = apart_test G r.plan && apart_test G r'.plan;
      slots = t.slots;
      held = t.held;
      lists = t.lists;
      granted = t.granted;
    }

abbrev pub tests_by : Judging → Group → Run → Run → Tests
tests_by judging G r r' = tests_of G r r' (both (trace_of judging G r).tests (trace_of judging G r').tests)

abbrev pub all_true : Tests
all_true = record { booted = true; homes = true; accounts = true; apart = true; slots = true; held = true; lists = true; granted = true }

-- unfolding it unfolds all that the tests compute with
unfoldable pub testing : ℕ
unfolding answers_by member members_only stays_inside frame_test slots_test state_test held_test pairs_test lists_test judges_test lists_when granted_test call_tests trace_by homes_test accounts_test apart_test
testing = 0
