-- Pages on account, computed: document 02, T-05.
use Rattle.std.specs.Prelude.{◌≡◌, refl, List, [], ◌∷◌, replicate}
use Rattle.std.proofs.Common.{◌∙◌}
use Rattle.judge.specs.Search.{searched}
use Rattle.calls.specs.Step.{Result, world_of}
use Rattle.calls.specs.Boot.{boot}
use Rattle.calls.specs.Laws.Booted.{boot_sound}
use Rattle.cases.specs.Runs.{Exchange, by, answers, expected, answers_by, answers_are, by_search}
use Rattle.calls.specs.declared.Call.TheVariants.{OnStore, OnObject}
use Rattle.calls.specs.declared.Access.TheVariants.{Write}
use Rattle.calls.specs.declared.ObjectCall.TheVariants.{Create, Delete}

-- a boot with limits of 4 and 2 pages on accounts 0 and 1; domain 0 may charge both, and domain 1 account 1
abbrev pub scarce_boot : Result
scarce_boot =
    boot (replicate 8192 0) 0
    (11 ∷ 12 ∷ 13 ∷ 14 ∷ 4 ∷ 2 ∷ 128 ∷ 128 ∷ 0 ∷ 3 ∷ 1 ∷ 2 ∷ 2 ∷ 4 ∷ 3 ∷ 8 ∷ [])

abbrev pub charges : List Exchange
charges =
    -- the home of domain 1 and this page meet the limit of account 1; one page more passes it, whoever asks
    by 0 (OnObject (Create 1 1 21 1)) (0 ∷ 0 ∷ [])
    ∷ by 0 (OnObject (Create 2 1 22 1)) (15 ∷ 0 ∷ [])
    ∷ by 1 (OnObject (Create 33 1 31 1)) (15 ∷ 0 ∷ [])
    -- domain 1 may not charge account 0; 9 comes before, and 14 before 15
    ∷ by 1 (OnObject (Create 33 1 31 0)) (14 ∷ 0 ∷ [])
    ∷ by 1 (OnObject (Create 33 32 31 0)) (9 ∷ 0 ∷ [])
    ∷ by 1 (OnObject (Create 33 8 31 0)) (14 ∷ 0 ∷ [])
    ∷ by 1 (OnObject (Create 33 1 31 4)) (5 ∷ 0 ∷ [])
    -- the home of domain 0 is on account 0
    ∷ by 0 (OnObject (Create 2 4 22 0)) (15 ∷ 0 ∷ [])
    ∷ by 0 (OnObject (Create 2 3 22 0)) (0 ∷ 0 ∷ [])
    -- domain 1 deletes what domain 0 has on account 1, and there is room again
    ∷ by 1 (OnStore (Write 2050 256)) (0 ∷ 0 ∷ [])
    ∷ by 1 (OnStore (Write 2051 21)) (0 ∷ 0 ∷ [])
    ∷ by 1 (OnObject (Delete 1)) (0 ∷ 0 ∷ [])
    ∷ by 0 (OnObject (Create 5 1 23 0)) (15 ∷ 0 ∷ [])
    ∷ by 1 (OnObject (Create 33 1 31 1)) (0 ∷ 0 ∷ [])
    ∷ []

computed : answers_by searched (world_of scarce_boot) charges ≡ expected charges
unfolding answers_by
computed = refl

-- every call is answered so
pub charged : answers (world_of scarce_boot) charges ≡ expected charges
charged =
    answers_are (world_of scarce_boot) (boot_sound _ _ _) charges
    ∙ by_search (λ j. answers_by j (world_of scarce_boot) charges ≡ expected charges) computed
