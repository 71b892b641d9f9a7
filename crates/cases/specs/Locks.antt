-- Locks, as runs behind the listing of document 01, computed in ../proofs/Locks.antt; and that locking again changes nothing.
use Rattle.std.specs.Prelude.{ℕ, ◌<◌, ◌≡◌, true, false, List, [], ◌∷◌, ◌++◌, eqb}
use Rattle.std.proofs.Common.{ap, sym, arith}
use Rattle.state.specs.Update.{lock_slot}
use Rattle.state.specs.declared.Frame.{Frame}
use Rattle.cases.specs.Runs.{Exchange, by}
use Rattle.cases.specs.Marked.{registered}
use Rattle.calls.specs.declared.Call.TheVariants.{OnDomain}
use Rattle.calls.specs.declared.DomainCall.TheVariants.{Insert, Remove, Get, Lock, PdxCall, PdxReturn}

abbrev pub lock_runs : List (List Exchange)
lock_runs =
    -- the whole lock stops RM and CA, and neither RT nor LO, by which the locked count still rises
    (by 0 (OnDomain (Lock 255)) (0 ∷ 0 ∷ [])
    ∷ by 0 (OnDomain (Remove 0)) (6 ∷ 0 ∷ [])
    ∷ by 0 (OnDomain (PdxCall 2112 0)) (6 ∷ 0 ∷ [])
    ∷ by 0 (OnDomain (Lock 0)) (0 ∷ 0 ∷ [])
    ∷ by 0 (OnDomain Get) (0 ∷ 1 ∷ 1 ∷ 1 ∷ 0 ∷ [])
    ∷ by 0 (OnDomain PdxReturn) (12 ∷ 0 ∷ [])
    ∷ [])
    -- a lock set inside a procedure is gone behind the return, and a Clist is merged behind what is locked
    ∷ (registered
    ++ by 0 (OnDomain (Lock 0)) (0 ∷ 0 ∷ [])
    ∷ by 0 (OnDomain (PdxCall 2112 0)) (0 ∷ 2112 ∷ [])
    ∷ by 0 (OnDomain (Lock 255)) (0 ∷ 0 ∷ [])
    ∷ by 0 (OnDomain Get) (0 ∷ 2 ∷ 1 ∷ 1 ∷ 0 ∷ 32 ∷ [])
    ∷ by 0 (OnDomain PdxReturn) (0 ∷ 0 ∷ [])
    ∷ by 0 (OnDomain Get) (0 ∷ 1 ∷ 1 ∷ 0 ∷ 0 ∷ [])
    ∷ by 0 (OnDomain (Insert 1 (record { page = 0; password = 11 }))) (0 ∷ 0 ∷ [])
    ∷ [])
    ∷ []

-- LO of a slot that is locked changes nothing, nor does LO 255 under the whole lock
pub locked_already : (f : Frame) (i : ℕ) → i < f.locked → eqb i 255 ≡ false → lock_slot f i ≡ f
unfolding lock_slot
locked_already f i l e = rw e (ap (λ n. record { slots = f.slots; count = f.count; locked = n; whole = f.whole }) (omega arith))

pub whole_already : (f : Frame) → f.whole ≡ true → lock_slot f 255 ≡ f
unfolding lock_slot
whole_already f e = ap (λ b. record { slots = f.slots; count = f.count; locked = f.locked; whole = b }) (sym e)
