-- Runs told by their exchanges, and what is shown of two of them.
use Rattle.std.specs.Prelude.{ℕ, ◌≡◌, Bool, true, not, ◌&&◌, List, [], ◌∷◌, ◌++◌, map, replicate}
use Rattle.std.proofs.Common.{ap, sym, ◌∙◌, true≢false}
use Rattle.judge.specs.Search.{searched}
use Rattle.judge.specs.Judged.{judged}
use Rattle.calls.specs.View.{Judging}
use Rattle.calls.specs.Runs.{Event}
use Rattle.calls.specs.Laws.Booted.{boot_sound}
use Rattle.cases.specs.Runs.{Exchange, answers, expected, answers_by, answers_are, by_search}
use Rattle.calls.specs.declared.Call.{Call}
use Rattle.calls.specs.declared.Call.TheVariants.{OnObject}
use Rattle.calls.specs.declared.ObjectCall.TheVariants.{Register}
use Rattle.isolation.specs.Group.{Group}
use Rattle.isolation.specs.Runs.{Run, start_of}
use Rattle.isolation.specs.Claim.{Isolated}
use Rattle.isolation_examples.specs.Tests.{Tests, tests_by}
use Rattle.isolation_examples.specs.Compared.{Parts, parts_by, parts_hold}

-- a run, each call with the number and values that it must answer
pub record Told : Type 0 where
  pub store : List ℕ
  pub booter : ℕ
  pub plan : List ℕ
  pub exchanges : List Exchange

abbrev pub event_of : Exchange → Event
event_of e = record { domain = e.domain; call = e.call }

abbrev pub run_of : Told → Run
run_of t = record { store = t.store; booter = t.booter; plan = t.plan; events = map event_of t.exchanges }

-- two runs computed: every answer, every premise's test, every part of the conclusion
pub record Computed (judging : Judging) (G : Group) (t t' : Told) (tests : Tests) (parts : Parts) : Type 0 where
  pub answered : answers_by judging (start_of (run_of t)) t.exchanges ≡ expected t.exchanges
  pub answered' : answers_by judging (start_of (run_of t')) t'.exchanges ≡ expected t'.exchanges
  pub tested : tests_by judging G (run_of t) (run_of t') ≡ tests
  pub compared : parts_by judging G (run_of t) (run_of t') ≡ parts

-- what is shown thereby: every call is answered as told, and the tests and parts are those of the judgement
pub record Shown (G : Group) (t t' : Told) (tests : Tests) (parts : Parts) : Type 0 where
  pub answered : answers (start_of (run_of t)) t.exchanges ≡ expected t.exchanges
  pub answered' : answers (start_of (run_of t')) t'.exchanges ≡ expected t'.exchanges
  pub tested : tests_by judged G (run_of t) (run_of t') ≡ tests
  pub compared : parts_by judged G (run_of t) (run_of t') ≡ parts

-- what the search computes holds of the judgement
pub by_computing : (G : Group) (t t' : Told) (tests : Tests) (parts : Parts) → Computed searched G t t' tests parts → Shown G t t' tests parts
by_computing G t t' tests parts c =
    let s = by_search (λ j. Computed j G t t' tests parts) c in
    record {
      answered = answers_are (start_of (run_of t)) (boot_sound _ _ _) t.exchanges ∙ s.answered;
      answered' = answers_are (start_of (run_of t')) (boot_sound _ _ _) t'.exchanges ∙ s.answered';
      tested = s.tested;
      compared = s.compared;
    }

-- some part of the conclusion differs
abbrev pub differ : Parts → Bool
differ p = not (p.answers && p.words && p.estates && p.domains)

-- then the conclusion fails
pub fails : {G : Group} {t t' : Told} {tests : Tests} {parts : Parts} → Shown G t t' tests parts → differ parts ≡ true
    → Isolated G (run_of t) (run_of t') → ⊥
fails {G} {t} {t'} s h i =
    let e = sym s.compared ∙ parts_hold G (run_of t) (run_of t') i in true≢false (sym h ∙ ap differ e)

-- the plan of a boot with home passwords that gives each domain an account of its own, with a limit of 128: domain d account d, and the
-- set of that account alone
abbrev pub own : List ℕ → List ℕ
own homes = homes ++ (128 ∷ 128 ∷ 128 ∷ 128 ∷ 0 ∷ 1 ∷ 1 ∷ 2 ∷ 2 ∷ 4 ∷ 3 ∷ 8 ∷ [])

-- a boot with the home passwords 11, 12, 13, 14 on a store of zeros
abbrev pub told : List Exchange → Told
told es = record { store = replicate 8192 0; booter = 0; plan = own (11 ∷ 12 ∷ 13 ∷ 14 ∷ []); exchanges = es }

-- a registration with one entry
abbrev pub registers : ℕ → ℕ → ℕ → ℕ → ℕ → Call
registers base password page list entry =
    OnObject
    (Register base password (record { page = page; password = list })
    (record { count = 1; first = entry; second = 0; third = 0; fourth = 0 }))

-- what a done call without a value answers, and a refused one
abbrev pub done : List ℕ
done = 0 ∷ 0 ∷ []

abbrev pub refuses : ℕ → List ℕ
refuses n = n ∷ 0 ∷ []
