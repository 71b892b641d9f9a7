-- Each premise is needed: for each a pair of runs that meets all the others, and in which the conclusion fails. Those on accounts are in
-- Accounts.antt.
use Rattle.std.specs.Prelude.{ℕ, ◌≡◌, refl, true, false, List, [], ◌∷◌, eqb, replicate}
use Rattle.judge.specs.Search.{searched}
use Rattle.cases.specs.Runs.{Exchange, by}
use Rattle.calls.specs.declared.Call.TheVariants.{OnStore, OnObject, OnDomain}
use Rattle.calls.specs.declared.Access.TheVariants.{Read, Write}
use Rattle.calls.specs.declared.ObjectCall.TheVariants.{Create, Delete, AddPassword, DropPassword}
use Rattle.calls.specs.declared.DomainCall.TheVariants.{Insert}
use Rattle.isolation.specs.Group.{Group}
use Rattle.isolation.specs.Runs.{members_calls}
use Rattle.isolation.specs.Claim.{Isolated}
use Rattle.isolation_examples.specs.Tests.{Tests, all_true}
use Rattle.isolation_examples.specs.Compared.{Parts, comparing}
use Rattle.isolation_examples.specs.Shown.{Told, own, run_of, Computed, Shown, by_computing, differ, fails, told, done, refuses, registers}

-- the premises that can be broken by themselves: that on slots cannot (Slots.antt); the members' calls come last
pub data Premise : Type 0 where
  booted homes accounts apart held lists granted : Premise

-- every test true but one
abbrev pub all_but : Premise → Tests
all_but booted = record { booted = false; homes = true; accounts = true; apart = true; slots = true; held = true; lists = true; granted = true }
all_but homes = record { booted = true; homes = false; accounts = true; apart = true; slots = true; held = true; lists = true; granted = true }
all_but accounts = record { booted = true; homes = true; accounts = false; apart = true; slots = true; held = true; lists = true; granted = true }
all_but apart = record { booted = true; homes = true; accounts = true; apart = false; slots = true; held = true; lists = true; granted = true }
all_but held = record { booted = true; homes = true; accounts = true; apart = true; slots = true; held = false; lists = true; granted = true }
all_but lists = record { booted = true; homes = true; accounts = true; apart = true; slots = true; held = true; lists = false; granted = true }
all_but granted = record { booted = true; homes = true; accounts = true; apart = true; slots = true; held = true; lists = true; granted = false }

-- domain 1 alone
abbrev pub alone : Group
alone = record { domains = eqb 1 }

-- a premise is broken, and no other; the members' calls are the same; the conclusion fails
pub record Broken (p : Premise) (t t' : Told) (parts : Parts) : Type 0 where
  pub shown : Shown alone t t' (all_but p) parts
  pub calls : members_calls alone (run_of t) ≡ members_calls alone (run_of t')
  pub failing : Isolated alone (run_of t) (run_of t') → ⊥

pub broken : (p : Premise) (t t' : Told) (parts : Parts) → Computed searched alone t t' (all_but p) parts
    → members_calls alone (run_of t) ≡ members_calls alone (run_of t') → differ parts ≡ true → Broken p t t' parts
broken p t t' parts s c h = let s = by_computing alone t t' (all_but p) parts s in record { shown = s; calls = c; failing = fails s h }

-- what differs: the answers alone; they and the words; they and the estates; everything
abbrev pub in_answers : Parts
in_answers = record { answers = false; words = true; estates = true; domains = true }

abbrev pub in_words : Parts
in_words = record { answers = false; words = false; estates = true; domains = true }

abbrev pub in_estates : Parts
in_estates = record { answers = false; words = true; estates = false; domains = true }

abbrev pub in_all : Parts
in_all = record { answers = false; words = false; estates = false; domains = false }

-- a run with other home passwords
abbrev pub housed_as : List ℕ → List Exchange → Told
housed_as hs es = record { store = replicate 8192 0; booter = 0; plan = own hs; exchanges = es }

-- THE LISTS: the member writes into its list a pair that is true for an outside page if the outsider has created that.
abbrev pub pairs : Told
pairs = told (by 0 (OnObject (Create 1 1 21 0)) done ∷ by 1 (OnStore (Write 2050 256)) done ∷ by 1 (OnStore (Write 2051 21)) done ∷ by 1 (OnStore (Read 64)) done ∷ [])

abbrev pub pairs' : Told
pairs' = told (by 1 (OnStore (Write 2050 256)) done ∷ by 1 (OnStore (Write 2051 21)) done ∷ by 1 (OnStore (Read 64)) (refuses 7) ∷ [])

pub pairs_needed : Broken lists pairs pairs' in_answers
unfolding comparing
pairs_needed =
    broken lists pairs pairs' in_answers (record { answered = refl; answered' = refl; tested = refl; compared = refl }) refl refl

-- THE HELD CAPABILITY of IN: the call is refused in both runs, at a slot above the count, and tells the member what exists outside.
abbrev pub inserted : Told
inserted = told (by 0 (OnObject (Create 1 1 21 0)) done ∷ by 1 (OnDomain (Insert 2 (record { page = 1; password = 21 }))) (refuses 12) ∷ [])

abbrev pub inserted' : Told
inserted' = told (by 1 (OnDomain (Insert 2 (record { page = 1; password = 21 }))) (refuses 7) ∷ [])

pub inserted_needed : Broken held inserted inserted' in_answers
unfolding comparing
inserted_needed =
    broken held inserted inserted' in_answers (record { answered = refl; answered' = refl; tested = refl; compared = refl }) refl refl

-- THE HELD CAPABILITY of RG: the member registers its home with an outside list.
abbrev pub registered : Told
registered = told (by 0 (OnObject (Create 1 1 21 0)) done ∷ by 1 (registers 32 15 1 21 2048) done ∷ [])

abbrev pub registered' : Told
registered' = told (by 1 (registers 32 15 1 21 2048) (refuses 7) ∷ [])

pub registered_needed : Broken held registered registered' in_estates
unfolding comparing
registered_needed =
    broken held registered registered' in_estates (record { answered = refl; answered' = refl; tested = refl; compared = refl }) refl refl

-- the outsider has guessed the member's home password, and writes the pair into its own list
abbrev pub guessed : List Exchange → Told
guessed es = told (by 0 (OnStore (Write 2 8192)) done ∷ by 0 (OnStore (Write 3 12)) done ∷ es)

-- A CHANGE INSIDE by WR
abbrev pub written : Told
written = guessed (by 0 (OnStore (Write 2060 5)) done ∷ by 1 (OnStore (Read 2060)) (0 ∷ 5 ∷ []) ∷ [])

abbrev pub written' : Told
written' = told (by 1 (OnStore (Read 2060)) done ∷ [])

pub written_needed : Broken granted written written' in_words
unfolding comparing
written_needed =
    broken granted written written' in_words (record { answered = refl; answered' = refl; tested = refl; compared = refl }) refl refl

-- A CHANGE INSIDE by DL
abbrev pub deleted : Told
deleted = guessed (by 0 (OnObject (Delete 32)) done ∷ by 1 (OnStore (Read 2048)) (refuses 7) ∷ [])

abbrev pub deleted' : Told
deleted' = told (by 1 (OnStore (Read 2048)) (0 ∷ 8207 ∷ []) ∷ [])

pub deleted_needed : Broken granted deleted deleted' in_estates
unfolding comparing
deleted_needed =
    broken granted deleted deleted' in_estates (record { answered = refl; answered' = refl; tested = refl; compared = refl }) refl refl

-- A CHANGE INSIDE by AP
abbrev pub added : Told
added = guessed (by 0 (OnObject (AddPassword 32 77 1)) done ∷ by 1 (OnObject (AddPassword 32 77 1)) (refuses 10) ∷ [])

abbrev pub added' : Told
added' = told (by 1 (OnObject (AddPassword 32 77 1)) done ∷ [])

pub added_needed : Broken granted added added' in_answers
unfolding comparing
added_needed =
    broken granted added added' in_answers (record { answered = refl; answered' = refl; tested = refl; compared = refl }) refl refl

-- A CHANGE INSIDE by DP
abbrev pub dropped : Told
dropped = guessed (by 0 (OnObject (DropPassword 32 12)) done ∷ by 1 (OnStore (Read 2048)) (refuses 7) ∷ [])

abbrev pub dropped' : Told
dropped' = told (by 1 (OnStore (Read 2048)) (0 ∷ 8207 ∷ []) ∷ [])

pub dropped_needed : Broken granted dropped dropped' in_estates
unfolding comparing
dropped_needed =
    broken granted dropped dropped' in_estates (record { answered = refl; answered' = refl; tested = refl; compared = refl }) refl refl

-- A CHANGE INSIDE by RG
abbrev pub enrolled : Told
enrolled = guessed (by 0 (registers 32 99 0 11 2048) done ∷ by 1 (registers 32 98 32 12 2048) (refuses 11) ∷ [])

abbrev pub enrolled' : Told
enrolled' = told (by 1 (registers 32 98 32 12 2048) done ∷ [])

pub enrolled_needed : Broken granted enrolled enrolled' in_estates
unfolding comparing
enrolled_needed =
    broken granted enrolled enrolled' in_estates (record { answered = refl; answered' = refl; tested = refl; compared = refl }) refl refl

-- A HOME PASSWORD of the member differs.
abbrev pub housed : Told
housed = told (by 1 (OnStore (Read 2049)) (0 ∷ 12 ∷ []) ∷ [])

abbrev pub housed' : Told
housed' = housed_as (11 ∷ 15 ∷ 13 ∷ 14 ∷ []) (by 1 (OnStore (Read 2049)) (0 ∷ 15 ∷ []) ∷ [])

pub housed_needed : Broken homes housed housed' in_all
unfolding comparing
housed_needed =
    broken homes housed housed' in_all (record { answered = refl; answered' = refl; tested = refl; compared = refl }) refl refl

-- A BOOT IS REFUSED, for an outsider's home password.
abbrev pub unbooted : Told
unbooted = told (by 1 (OnStore (Read 2048)) (0 ∷ 8207 ∷ []) ∷ [])

abbrev pub unbooted' : Told
unbooted' = housed_as (0 ∷ 12 ∷ 13 ∷ 14 ∷ []) (by 1 (OnStore (Read 2048)) (refuses 7) ∷ [])

pub unbooted_needed : Broken booted unbooted unbooted' in_all
unfolding comparing
unbooted_needed =
    broken booted unbooted unbooted' in_all (record { answered = refl; answered' = refl; tested = refl; compared = refl }) refl refl

-- THE MEMBERS' CALLS differ: every test is true, and the conclusion fails.
abbrev pub called : Told
called = told (by 1 (OnStore (Read 2048)) (0 ∷ 8207 ∷ []) ∷ [])

abbrev pub called' : Told
called' = told (by 1 (OnStore (Read 2049)) (0 ∷ 12 ∷ []) ∷ [])

pub called_shown : Shown alone called called' all_true in_answers
unfolding comparing
called_shown =
    by_computing alone called called' all_true in_answers (record { answered = refl; answered' = refl; tested = refl; compared = refl })

pub called_needed : Isolated alone (run_of called) (run_of called') → ⊥
called_needed = fails called_shown refl
