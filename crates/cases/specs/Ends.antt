-- Lists that end before their object does, as computed runs behind the listing of document 01: document 02, T-01. Behind the listing the
-- home of domain 0 holds two pairs, at words 0 and 2; the words from 4 on are zero.
use Rattle.std.specs.Prelude.{ℕ, ◌≡◌, refl, List, [], ◌∷◌}
use Rattle.judge.specs.Search.{searched}
use Rattle.cases.specs.Runs.{Exchange, by, answers_by}
use Rattle.cases.specs.Marked.{answers_after, expected_after, computed_after, by_computing}
use Rattle.calls.specs.declared.Call.TheVariants.{OnStore, OnObject, OnDomain}
use Rattle.calls.specs.declared.Access.TheVariants.{Read, Write, Lookup}
use Rattle.calls.specs.declared.ObjectCall.TheVariants.{Create, AddPassword}
use Rattle.calls.specs.declared.DomainCall.TheVariants.{Insert}

-- a word written by domain 0
abbrev pub writes : ℕ → ℕ → Exchange
writes a x = by 0 (OnStore (Write a x)) (0 ∷ 0 ∷ [])

abbrev pub end_runs : List (List Exchange)
end_runs =
    -- the pair for page 2 stands behind a zero pair, and grants nothing until one word of that is filled, whichever
    (by 0 (OnObject (Create 2 1 23 0)) (0 ∷ 0 ∷ [])
    ∷ writes 6 512
    ∷ writes 7 23
    ∷ by 0 (OnStore (Read 128)) (7 ∷ 0 ∷ [])
    ∷ writes 4 1
    ∷ by 0 (OnStore (Lookup 128 1)) (0 ∷ 6 ∷ [])
    ∷ writes 4 0
    ∷ by 0 (OnStore (Lookup 128 1)) (7 ∷ 0 ∷ [])
    ∷ writes 5 1
    ∷ by 0 (OnStore (Read 128)) (0 ∷ 0 ∷ [])
    ∷ [])
    -- the list in page 2, at slot 1, grants page 1; the pair for page 1 with mode 130, behind a zero pair of the home, denies nothing until
    -- that is filled
    ∷ (by 0 (OnObject (Create 2 1 23 0)) (0 ∷ 0 ∷ [])
    ∷ by 0 (OnObject (AddPassword 1 22 130)) (0 ∷ 0 ∷ [])
    ∷ writes 4 512
    ∷ writes 5 23
    ∷ writes 128 256
    ∷ writes 129 21
    ∷ by 0 (OnDomain (Insert 1 (record { page = 2; password = 23 }))) (0 ∷ 0 ∷ [])
    ∷ writes 3 99
    ∷ writes 8 256
    ∷ writes 9 22
    ∷ writes 64 5
    ∷ by 0 (OnStore (Lookup 64 2)) (0 ∷ 128 ∷ [])
    ∷ writes 6 1
    ∷ by 0 (OnStore (Write 64 6)) (7 ∷ 0 ∷ [])
    ∷ by 0 (OnStore (Read 64)) (0 ∷ 5 ∷ [])
    ∷ [])
    -- page 0's capability with the hint 0 has a zero word, and ends no list; with its password zero too the list is empty
    ∷ (writes 0 0
    ∷ by 0 (OnStore (Lookup 0 15)) (0 ∷ 0 ∷ [])
    ∷ by 0 (OnStore (Lookup 64 3)) (0 ∷ 2 ∷ [])
    ∷ writes 1 0
    ∷ by 0 (OnStore (Read 0)) (7 ∷ 0 ∷ [])
    ∷ by 0 (OnStore (Read 64)) (7 ∷ 0 ∷ [])
    ∷ [])
    ∷ []

computed : computed_after searched end_runs ≡ expected_after end_runs
unfolding answers_by
computed = refl

pub ends : answers_after end_runs ≡ expected_after end_runs
ends = by_computing end_runs computed
