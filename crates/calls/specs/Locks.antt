-- What the locks stop: document 01, "In checking order", check 6, with the two calls that document 02, T-03, adds.
use Rattle.std.specs.Prelude.{ℕ, Bool, true, false, ◌&&◌, ◌||◌, ltb}
use Rattle.state.specs.declared.Frame.{Frame}
use Rattle.calls.specs.declared.Call.{Call}
use Rattle.calls.specs.declared.Call.TheVariants.{OnStore, OnObject, OnDomain}
use Rattle.calls.specs.declared.ObjectCall.TheVariants.{Create, Delete, AddPassword, DropPassword, Register}
use Rattle.calls.specs.declared.DomainCall.TheVariants.{Insert, Remove, Get, Lock, PdxCall, PdxReturn}

-- the whole lock stops AP, RG, IN, RM and CA
abbrev pub whole_stops : Call → Bool
whole_stops (OnStore c) = false
whole_stops (OnObject (Create p n k a)) = false
whole_stops (OnObject (Delete b)) = false
whole_stops (OnObject (AddPassword b k m)) = true
whole_stops (OnObject (DropPassword b k)) = false
whole_stops (OnObject (Register b k l es)) = true
whole_stops (OnDomain (Insert i l)) = true
whole_stops (OnDomain (Remove i)) = true
whole_stops (OnDomain Get) = false
whole_stops (OnDomain (Lock i)) = false
whole_stops (OnDomain (PdxCall a ch)) = true
whole_stops (OnDomain PdxReturn) = false

-- the lock of the first n slots stops IN and RM at one of them
abbrev pub slots_stop : ℕ → Call → Bool
slots_stop n (OnStore c) = false
slots_stop n (OnObject c) = false
slots_stop n (OnDomain (Insert i l)) = ltb i n
slots_stop n (OnDomain (Remove i)) = ltb i n
slots_stop n (OnDomain Get) = false
slots_stop n (OnDomain (Lock i)) = false
slots_stop n (OnDomain (PdxCall a ch)) = false
slots_stop n (OnDomain PdxReturn) = false

-- the locks of a frame stop a call
abbrev pub locks_stop : Frame → Call → Bool
locks_stop f c = slots_stop f.locked c || (whole_stops c && f.whole)
