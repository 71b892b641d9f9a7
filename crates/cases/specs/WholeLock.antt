-- The whole lock and the calls on objects, as computed runs behind the listing of document 01: document 02, T-03.
use Rattle.std.specs.Prelude.{ℕ, ◌≡◌, refl, List, [], ◌∷◌, ◌++◌}
use Rattle.judge.specs.Search.{searched}
use Rattle.cases.specs.Runs.{Exchange, by, answers_by}
use Rattle.cases.specs.Marked.{answers_after, expected_after, computed_after, by_computing, registered}
use Rattle.calls.specs.declared.Call.{Call}
use Rattle.calls.specs.declared.Call.TheVariants.{OnObject, OnDomain}
use Rattle.calls.specs.declared.ObjectCall.TheVariants.{Create, Delete, AddPassword, DropPassword, Register}
use Rattle.calls.specs.declared.DomainCall.TheVariants.{Lock, PdxCall, PdxReturn}

-- AP of a password to page 1 with a mode; RG of page 1, with domain 0's home as its list and its first word as its entry
abbrev adds : ℕ → ℕ → Call
adds word mode = OnObject (AddPassword 1 word mode)

abbrev registers : Call
registers =
    OnObject (Register 1 23 (record { page = 0; password = 11 }) (record { count = 1; first = 64; second = 0; third = 0; fourth = 0 }))

abbrev pub whole_lock_runs : List (List Exchange)
whole_lock_runs =
    -- AP and RG are stopped, by 6 behind 5; CR, DP, DL, LO and RT are not
    (by 0 (adds 22 1) (0 ∷ 0 ∷ [])
    ∷ by 0 (OnDomain (Lock 255)) (0 ∷ 0 ∷ [])
    ∷ by 0 (adds 24 1) (6 ∷ 0 ∷ [])
    ∷ by 0 registers (6 ∷ 0 ∷ [])
    ∷ by 0 (adds 24 32) (5 ∷ 0 ∷ [])
    ∷ by 0 (OnDomain (Lock 0)) (0 ∷ 0 ∷ [])
    ∷ by 0 (OnDomain PdxReturn) (12 ∷ 0 ∷ [])
    ∷ by 0 (OnObject (Create 2 1 9 0)) (0 ∷ 0 ∷ [])
    ∷ by 0 (OnObject (DropPassword 1 22)) (0 ∷ 0 ∷ [])
    ∷ by 0 (OnObject (Delete 1)) (0 ∷ 0 ∷ [])
    ∷ [])
    -- a stranger's are, before it is judged; its DP is judged, and the lock is its own alone
    ∷ (by 1 (adds 22 1) (7 ∷ 0 ∷ [])
    ∷ by 1 (OnDomain (Lock 255)) (0 ∷ 0 ∷ [])
    ∷ by 1 (adds 22 1) (6 ∷ 0 ∷ [])
    ∷ by 1 registers (6 ∷ 0 ∷ [])
    ∷ by 1 (OnObject (DropPassword 1 21)) (7 ∷ 0 ∷ [])
    ∷ by 0 (adds 22 1) (0 ∷ 0 ∷ [])
    ∷ by 0 registers (0 ∷ 0 ∷ [])
    ∷ [])
    -- a lock set inside a procedure stops them there; the return brings back the domain without it
    ∷ (registered
    ++ by 0 (OnDomain (PdxCall 2112 0)) (0 ∷ 2112 ∷ [])
    ∷ by 0 (OnDomain (Lock 255)) (0 ∷ 0 ∷ [])
    ∷ by 0 (adds 22 1) (6 ∷ 0 ∷ [])
    ∷ by 0 registers (6 ∷ 0 ∷ [])
    ∷ by 0 (OnDomain PdxReturn) (0 ∷ 0 ∷ [])
    ∷ by 0 (adds 22 1) (0 ∷ 0 ∷ [])
    ∷ by 0 registers (0 ∷ 0 ∷ [])
    ∷ [])
    ∷ []

computed : computed_after searched whole_lock_runs ≡ expected_after whole_lock_runs
unfolding answers_by
computed = refl

pub whole_lock : answers_after whole_lock_runs ≡ expected_after whole_lock_runs
whole_lock = by_computing whole_lock_runs computed
