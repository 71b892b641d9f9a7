-- REFUSAL 6: check 6 holds exactly where no lock stops the call, for any call. Which calls are answered 6 is in proofs/Locks.antt.
use Rattle.std.specs.Prelude.{ℕ, ◌≡◌, Bool, true, false, not, ◌&&◌, ◌||◌, leb, ltb}
use Rattle.std.proofs.Math.Path.{refl}
use Rattle.std.proofs.Common.{lt-ltb, le-ltb, leb-true, leb-false}
use Rattle.state.specs.declared.Frame.{Frame}
use Rattle.calls.specs.Rules.{unlocked}
use Rattle.calls.specs.Locks.{locks_stop}
use Rattle.calls.specs.declared.Call.{Call}
use Rattle.calls.specs.declared.Call.TheVariants.{OnStore, OnObject, OnDomain}
use Rattle.calls.specs.declared.Access.TheVariants.{Read, Write, Execute, Lookup}
use Rattle.calls.specs.declared.ObjectCall.TheVariants.{Create, Delete, AddPassword, DropPassword, Register}
use Rattle.calls.specs.declared.DomainCall.TheVariants.{Insert, Remove, Get, Lock, PdxCall, PdxReturn}

-- a slot from the locked count on, without the whole lock
from_locked : (i n : ℕ) (b : Bool) → (leb n i && not b) ≡ not (ltb i n || b)
from_locked i n b = go (leb n i) refl
  where
    go : (t : Bool) → leb n i ≡ t → (t && not b) ≡ not (ltb i n || b)
    go true e = rw (le-ltb i n (leb-true n i e))
    go false e = rw (lt-ltb i n (leb-false n i e))

-- CHECK 6 HOLDS EXACTLY WHERE NO LOCK STOPS THE CALL, for any call
pub unlocked_is : (c : Call) (f : Frame) → unlocked c f ≡ not (locks_stop f c)
unfolding unlocked
unlocked_is (OnStore (Read a)) f = refl
unlocked_is (OnStore (Write a x)) f = refl
unlocked_is (OnStore (Execute a)) f = refl
unlocked_is (OnStore (Lookup a r)) f = refl
unlocked_is (OnObject (Create p n k a)) f = refl
unlocked_is (OnObject (Delete b)) f = refl
unlocked_is (OnObject (AddPassword b k m)) f = refl
unlocked_is (OnObject (DropPassword b k)) f = refl
unlocked_is (OnObject (Register b k l es)) f = refl
unlocked_is (OnDomain (Insert i l)) f = from_locked i f.locked f.whole
unlocked_is (OnDomain (Remove i)) f = from_locked i f.locked f.whole
unlocked_is (OnDomain Get) f = refl
unlocked_is (OnDomain (Lock i)) f = refl
unlocked_is (OnDomain (PdxCall a ch)) f = refl
unlocked_is (OnDomain PdxReturn) f = refl
