-- The marked cases of document 01, "The call program" and "Around the edges", with T-07 of document 02: one table, proved in one go
-- in ../proofs/Marked.antt.
use Rattle.std.specs.Prelude.{ℕ, ◌≡◌, List, [], ◌∷◌, ◌++◌, map, replicate}
use Rattle.std.proofs.Common.{◌∙◌}
use Rattle.judge.specs.Search.{searched}
use Rattle.judge.specs.Judged.{judged}
use Rattle.calls.specs.View.{Judging}
use Rattle.calls.specs.Step.{Result, world_of, answer_of}
use Rattle.calls.specs.Boot.{boot}
use Rattle.calls.specs.Laws.Booted.{boot_sound}
use Rattle.cases.specs.Runs.{ample, Exchange, by, answers, expected, answers_by, answers_are, map_same, by_search}
use Rattle.calls.specs.declared.Call.TheVariants.{OnStore, OnObject, OnDomain}
use Rattle.calls.specs.declared.Access.TheVariants.{Read, Write, Lookup}
use Rattle.calls.specs.declared.ObjectCall.TheVariants.{Create, AddPassword, Register}
use Rattle.calls.specs.declared.DomainCall.TheVariants.{Remove, Get, Lock, PdxCall, PdxReturn}

-- the boot of the listing, on a store of zeros, with ample accounts
abbrev pub listing_boot : Result
listing_boot = boot (replicate 8192 0) 0 (ample (11 ∷ 12 ∷ 13 ∷ 14 ∷ []))

-- the listing of "The call program" behind its boot
abbrev pub listing : List Exchange
listing =
    by 0 (OnStore (Read 0)) (0 ∷ 15 ∷ [])
    ∷ by 1 (OnStore (Read 2048)) (0 ∷ 8207 ∷ [])
    ∷ by 0 (OnStore (Read 2048)) (7 ∷ 0 ∷ [])
    ∷ by 0 (OnObject (Create 1 1 21 0)) (0 ∷ 0 ∷ [])
    ∷ by 0 (OnStore (Read 64)) (7 ∷ 0 ∷ [])
    ∷ by 0 (OnStore (Write 2 256)) (0 ∷ 0 ∷ [])
    ∷ by 0 (OnStore (Write 3 21)) (0 ∷ 0 ∷ [])
    ∷ by 0 (OnStore (Lookup 64 3)) (0 ∷ 2 ∷ [])
    ∷ by 0 (OnDomain PdxReturn) (12 ∷ 0 ∷ [])
    ∷ by 0 (OnDomain Get) (0 ∷ 1 ∷ 0 ∷ 0 ∷ 0 ∷ [])
    ∷ []

abbrev pub mode130 : ℕ → ℕ → List Exchange
mode130 third fifth =
    by 0 (OnObject (AddPassword 1 22 130)) (0 ∷ 0 ∷ [])
    ∷ by 0 (OnStore (Write 3 third)) (0 ∷ 0 ∷ [])
    ∷ by 0 (OnStore (Write 4 256)) (0 ∷ 0 ∷ [])
    ∷ by 0 (OnStore (Write 5 fifth)) (0 ∷ 0 ∷ [])
    ∷ []

-- domain 1 registers its page 33, and domain 0 gets the capability
abbrev pub registered : List Exchange
registered =
    by 1 (OnObject (Create 33 1 31 0)) (0 ∷ 0 ∷ [])
    ∷ by 1 (OnStore (Write 2050 8448)) (0 ∷ 0 ∷ [])
    ∷ by 1 (OnStore (Write 2051 31)) (0 ∷ 0 ∷ [])
    ∷ by 1
    (OnObject (Register 33 32 (record { page = 32; password = 12 })
    (record { count = 1; first = 2112; second = 0; third = 0; fourth = 0 })))
    (0 ∷ 0 ∷ [])
    ∷ by 0 (OnStore (Write 4 8448)) (0 ∷ 0 ∷ [])
    ∷ by 0 (OnStore (Write 5 32)) (0 ∷ 0 ∷ [])
    ∷ []

-- the answers of runs that each start after the whole listing, as they are and as they must be
abbrev pub answers_after : List (List Exchange) → List (List (List ℕ))
answers_after runs = map (λ (es : List Exchange). answers (world_of listing_boot) (listing ++ es)) runs

abbrev pub expected_after : List (List Exchange) → List (List (List ℕ))
expected_after runs = map (λ (es : List Exchange). expected (listing ++ es)) runs

-- they are computed by the search, and without check 3
abbrev pub computed_after : Judging → List (List Exchange) → List (List (List ℕ))
computed_after judging runs = map (λ (es : List Exchange). answers_by judging (world_of listing_boot) (listing ++ es)) runs

pub answers_after_lem : (runs : List (List Exchange)) → answers_after runs ≡ computed_after judged runs
answers_after_lem runs = map_same _ _ (λ es. answers_are (world_of listing_boot) (boot_sound _ _ _) (listing ++ es)) runs

pub by_computing : (runs : List (List Exchange)) → computed_after searched runs ≡ expected_after runs → answers_after runs ≡ expected_after runs
by_computing runs p = answers_after_lem runs ∙ by_search (λ j. computed_after j runs ≡ expected_after runs) p

-- The cases; each starts after the whole listing. The first write with mode 130, whose denying pair stands behind the granting one, is 7
-- by document 02, T-07; document 01 has 0. All others are as in document 01.
abbrev pub cases : List (List Exchange)
cases =
    (by 0 (OnStore (Read 8192)) (5 ∷ 0 ∷ []) ∷ by 0 (OnStore (Read 8191)) (7 ∷ 0 ∷ []) ∷ [])
    ∷ (by 0 (OnObject (Create 31 2 9 0)) (9 ∷ 0 ∷ []) ∷ by 0 (OnObject (Create 31 1 9 0)) (0 ∷ 0 ∷ []) ∷ [])
    ∷ (by 0 (OnDomain (Lock 0)) (0 ∷ 0 ∷ []) ∷ by 0 (OnDomain (Remove 0)) (6 ∷ 0 ∷ []) ∷ [])
    ∷ (mode130 21 22 ++ by 0 (OnStore (Write 64 5)) (7 ∷ 0 ∷ []) ∷ [])
    ∷ (mode130 22 21 ++ by 0 (OnStore (Write 64 5)) (7 ∷ 0 ∷ []) ∷ by 0 (OnStore (Read 64)) (0 ∷ 0 ∷ []) ∷ [])
    ∷ (registered
    ++ by 0 (OnDomain (PdxCall 2113 0)) (8 ∷ 0 ∷ [])
    ∷ by 0 (OnDomain (PdxCall 2112 0)) (0 ∷ 2112 ∷ [])
    ∷ by 0 (OnStore (Read 2048)) (0 ∷ 8207 ∷ [])
    ∷ by 0 (OnDomain PdxReturn) (0 ∷ 0 ∷ [])
    ∷ by 0 (OnStore (Read 2048)) (7 ∷ 0 ∷ [])
    ∷ [])
    ∷ (registered
    ++ by 0 (OnDomain (PdxCall 2112 1)) (0 ∷ 2112 ∷ [])
    ∷ by 0 (OnStore (Read 0)) (7 ∷ 0 ∷ [])
    ∷ by 0 (OnDomain PdxReturn) (0 ∷ 0 ∷ [])
    ∷ by 0 (OnStore (Read 0)) (0 ∷ 15 ∷ [])
    ∷ [])
    ∷ []

-- the whole table: the boot's answer, and the answers of each run
abbrev pub answered : List (List (List ℕ))
answered = (answer_of listing_boot ∷ []) ∷ answers_after cases

abbrev pub wanted_answers : List (List (List ℕ))
wanted_answers = ((0 ∷ 0 ∷ []) ∷ []) ∷ expected_after cases
