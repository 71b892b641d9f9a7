-- The claim is not empty: two runs with other outsiders that meet every premise.
use Rattle.std.specs.Prelude.{◌≡◌, refl, ◌||◌, [], ◌∷◌, eqb, replicate}
use Rattle.cases.specs.Runs.{by}
use Rattle.calls.specs.declared.Call.TheVariants.{OnStore, OnObject, OnDomain}
use Rattle.calls.specs.declared.Access.TheVariants.{Read, Write, Lookup}
use Rattle.calls.specs.declared.ObjectCall.TheVariants.{Create, Delete, AddPassword}
use Rattle.calls.specs.declared.DomainCall.TheVariants.{Insert, Remove, Get, Lock, PdxCall, PdxReturn}
use Rattle.isolation.specs.Group.{Group}
use Rattle.isolation.specs.Runs.{members_calls}
use Rattle.isolation.specs.Claim.{Comparable}
use Rattle.isolation_examples.specs.Tests.{all_true}
use Rattle.isolation_examples.specs.Decided.{tests_hold}
use Rattle.isolation_examples.specs.Compared.{all_same, comparing}
use Rattle.isolation_examples.specs.Shown.{Told, run_of, Shown, by_computing, done, refuses, registers}

-- the group of domains 1 and 2
abbrev pub pair : Group
pair = record { domains = λ d. eqb d 1 || eqb d 2 }

-- Domain 1 makes a procedure of its page 33 and looks it up, domain 2 calls it, reads through it and returns; domain 1 inserts a
-- slot, locks and is refused. Both may charge accounts 1 and 2; the limit of account 1 is reached, and account 0 is not theirs. Meanwhile
-- the outsiders make and call a procedure of their own, and are refused inside.
abbrev pub one : Told
one =
    record {
      store = replicate 8192 0;
      booter = 0;
      plan = 11 ∷ 12 ∷ 13 ∷ 14 ∷ 128 ∷ 2 ∷ 128 ∷ 128 ∷ 0 ∷ 9 ∷ 1 ∷ 6 ∷ 2 ∷ 6 ∷ 3 ∷ 9 ∷ [];
      exchanges =
          by 0 (OnObject (Create 1 1 21 0)) done
          ∷ by 1 (OnObject (Create 33 1 31 1)) done
          ∷ by 0 (OnStore (Write 2 256)) done
          ∷ by 0 (OnStore (Write 3 21)) done
          ∷ by 1 (OnStore (Write 2050 8448)) done
          ∷ by 1 (OnStore (Write 2051 31)) done
          ∷ by 0 (registers 1 22 0 11 64) done
          ∷ by 1 (OnStore (Lookup 2112 3)) (0 ∷ 2050 ∷ [])
          ∷ by 2 (OnObject (Create 65 1 51 1)) (refuses 15)
          ∷ by 2 (OnObject (Create 65 1 51 0)) (refuses 14)
          ∷ by 0 (OnObject (Create 2 1 23 1)) (refuses 14)
          ∷ by 1 (registers 33 32 32 12 2112) done
          ∷ by 3 (OnStore (Write 6146 256)) done
          ∷ by 3 (OnStore (Write 6147 22)) done
          ∷ by 3 (OnDomain (PdxCall 64 1)) (0 ∷ 64 ∷ [])
          ∷ by 2 (OnStore (Write 4098 8448)) done
          ∷ by 2 (OnStore (Write 4099 32)) done
          ∷ by 0 (OnStore (Write 2048 9)) (refuses 7)
          ∷ by 0 (OnObject (Delete 32)) (refuses 7)
          ∷ by 2 (OnDomain (PdxCall 2112 0)) (0 ∷ 2112 ∷ [])
          ∷ by 2 (OnStore (Read 2048)) (0 ∷ 8207 ∷ [])
          ∷ by 2 (OnDomain Get) (0 ∷ 2 ∷ 0 ∷ 0 ∷ 64 ∷ 32 ∷ [])
          ∷ by 9 (OnDomain PdxReturn) (refuses 4)
          ∷ by 2 (OnDomain PdxReturn) done
          ∷ by 2 (OnStore (Read 2048)) (refuses 7)
          ∷ by 1 (OnDomain (Insert 1 (record { page = 33; password = 31 }))) done
          ∷ by 1 (OnDomain (Lock 0)) done
          ∷ by 1 (OnDomain (Remove 0)) (refuses 6)
          ∷ by 1 (OnStore (Write 2112 5)) done
          ∷ by 1 (OnStore (Read 0)) (refuses 7)
          ∷ by 3 (OnStore (Read 0)) (0 ∷ 15 ∷ [])
          ∷ [];
    }

abbrev pub other : Told
other =
    record {
      store = replicate 8192 1;
      booter = 3;
      plan = 41 ∷ 12 ∷ 13 ∷ 44 ∷ 4 ∷ 2 ∷ 128 ∷ 1 ∷ 0 ∷ 1 ∷ 1 ∷ 6 ∷ 2 ∷ 6 ∷ 3 ∷ 8 ∷ [];
      exchanges =
          by 1 (OnObject (Create 33 1 31 1)) done
          ∷ by 1 (OnStore (Write 2050 8448)) done
          ∷ by 3 (OnDomain (Lock 255)) done
          ∷ by 1 (OnStore (Write 2051 31)) done
          ∷ by 1 (OnStore (Lookup 2112 3)) (0 ∷ 2050 ∷ [])
          ∷ by 2 (OnObject (Create 65 1 51 1)) (refuses 15)
          ∷ by 0 (OnObject (Create 5 3 7 0)) done
          ∷ by 0 (OnObject (Create 9 1 8 0)) (refuses 15)
          ∷ by 2 (OnObject (Create 65 1 51 0)) (refuses 14)
          ∷ by 1 (registers 33 32 32 12 2112) done
          ∷ by 2 (OnStore (Write 4098 8448)) done
          ∷ by 2 (OnStore (Write 4099 32)) done
          ∷ by 2 (OnDomain (PdxCall 2112 0)) (0 ∷ 2112 ∷ [])
          ∷ by 3 (OnDomain (Insert 0 (record { page = 96; password = 44 }))) (refuses 6)
          ∷ by 2 (OnStore (Read 2048)) (0 ∷ 8207 ∷ [])
          ∷ by 2 (OnDomain Get) (0 ∷ 2 ∷ 0 ∷ 0 ∷ 64 ∷ 32 ∷ [])
          ∷ by 2 (OnDomain PdxReturn) done
          ∷ by 2 (OnStore (Read 2048)) (refuses 7)
          ∷ by 0 (OnStore (Write 2 1280)) done
          ∷ by 0 (OnStore (Write 3 7)) done
          ∷ by 0 (OnStore (Write 500 77)) done
          ∷ by 0 (OnObject (Delete 5)) done
          ∷ by 1 (OnDomain (Insert 1 (record { page = 33; password = 31 }))) done
          ∷ by 1 (OnDomain (Lock 0)) done
          ∷ by 1 (OnDomain (Remove 0)) (refuses 6)
          ∷ by 1 (OnStore (Write 2112 5)) done
          ∷ by 0 (OnObject (AddPassword 32 3 1)) (refuses 7)
          ∷ by 1 (OnStore (Read 0)) (refuses 7)
          ∷ [];
    }

-- every line is answered as told, every premise's test is true, and every part of the conclusion is the same
pub shown : Shown pair one other all_true all_same
unfolding comparing
shown = by_computing pair one other all_true all_same (record { answered = refl; answered' = refl; tested = refl; compared = refl })

-- so the two runs are comparable
pub comparable : Comparable pair (run_of one) (run_of other)
unfolding comparing
comparable = tests_hold pair (run_of one) (run_of other) shown.tested same_calls
  where
    same_calls : members_calls pair (run_of one) ≡ members_calls pair (run_of other)
    same_calls = refl
