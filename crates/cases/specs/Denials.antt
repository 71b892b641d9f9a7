-- Denying pairs in several places, as computed runs behind the listing of document 01: document 02, T-07. Behind the listing the home of
-- domain 0 holds two pairs, at words 0 and 2, and the second owns page 1. Ends.antt has a denying pair behind the end of a list.
use Rattle.std.specs.Prelude.{◌≡◌, refl, List, [], ◌∷◌}
use Rattle.judge.specs.Search.{searched}
use Rattle.cases.specs.Runs.{Exchange, by, answers_by}
use Rattle.cases.specs.Marked.{answers_after, expected_after, computed_after, by_computing}
use Rattle.cases.specs.Ends.{writes}
use Rattle.calls.specs.declared.Call.TheVariants.{OnStore, OnObject, OnDomain}
use Rattle.calls.specs.declared.Access.TheVariants.{Write, Lookup}
use Rattle.calls.specs.declared.ObjectCall.TheVariants.{Create, AddPassword, DropPassword}
use Rattle.calls.specs.declared.DomainCall.TheVariants.{Insert, Remove}

abbrev pub denial_runs : List (List Exchange)
denial_runs =
    -- the only pair of the list in page 2 denies W on page 1: it counts while the list stands in slot 1, behind the list that grants, and no
    -- longer once the slot is removed, or dead, its password being dropped
    (by 0 (OnObject (Create 2 1 23 0)) (0 ∷ 0 ∷ [])
    ∷ by 0 (OnObject (AddPassword 1 22 130)) (0 ∷ 0 ∷ [])
    ∷ writes 4 512
    ∷ writes 5 23
    ∷ writes 128 256
    ∷ writes 129 22
    ∷ by 0 (OnStore (Lookup 64 3)) (0 ∷ 2 ∷ [])
    ∷ by 0 (OnDomain (Insert 1 (record { page = 2; password = 23 }))) (0 ∷ 0 ∷ [])
    ∷ by 0 (OnStore (Write 64 5)) (7 ∷ 0 ∷ [])
    ∷ by 0 (OnStore (Lookup 64 1)) (0 ∷ 2 ∷ [])
    ∷ by 0 (OnDomain (Remove 1)) (0 ∷ 0 ∷ [])
    ∷ by 0 (OnStore (Write 64 5)) (0 ∷ 0 ∷ [])
    ∷ by 0 (OnDomain (Insert 1 (record { page = 2; password = 23 }))) (0 ∷ 0 ∷ [])
    ∷ by 0 (OnStore (Lookup 64 3)) (7 ∷ 0 ∷ [])
    ∷ by 0 (OnObject (DropPassword 2 23)) (0 ∷ 0 ∷ [])
    ∷ by 0 (OnStore (Lookup 64 3)) (0 ∷ 2 ∷ [])
    ∷ [])
    -- behind two granting pairs, of which LK gives the first; an owner's call wants W too
    ∷ (by 0 (OnObject (AddPassword 1 22 130)) (0 ∷ 0 ∷ [])
    ∷ writes 4 256
    ∷ writes 5 21
    ∷ by 0 (OnStore (Lookup 64 3)) (0 ∷ 2 ∷ [])
    ∷ writes 6 256
    ∷ writes 7 22
    ∷ by 0 (OnStore (Lookup 64 3)) (7 ∷ 0 ∷ [])
    ∷ by 0 (OnObject (DropPassword 1 22)) (7 ∷ 0 ∷ [])
    ∷ by 0 (OnStore (Lookup 64 1)) (0 ∷ 2 ∷ [])
    ∷ writes 7 0
    ∷ by 0 (OnStore (Lookup 64 3)) (0 ∷ 2 ∷ [])
    ∷ by 0 (OnObject (DropPassword 1 22)) (0 ∷ 0 ∷ [])
    ∷ [])
    ∷ []

computed : computed_after searched denial_runs ≡ expected_after denial_runs
unfolding answers_by
computed = refl

pub denials : answers_after denial_runs ≡ expected_after denial_runs
denials = by_computing denial_runs computed
