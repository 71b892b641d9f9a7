-- What a done call can change: the state or not, and a run of the store's words. What lies outside need not be written back.
use Rattle.std.specs.Prelude.{ℕ, ◌+◌, ◌*◌, Bool, true, false, cond, leb}
use Rattle.calls.specs.declared.Call.{Call}
use Rattle.calls.specs.declared.Call.TheVariants.{OnStore, OnObject, OnDomain}
use Rattle.calls.specs.declared.Access.{Access}
use Rattle.calls.specs.declared.Access.TheVariants.{Read, Write, Execute, Lookup}
use Rattle.calls.specs.declared.ObjectCall.{ObjectCall}
use Rattle.calls.specs.declared.ObjectCall.TheVariants.{Create, Delete, AddPassword, DropPassword, Register}
use Rattle.calls.specs.declared.DomainCall.{DomainCall}
use Rattle.calls.specs.declared.DomainCall.TheVariants.{Insert, Remove, Get, Lock, PdxCall, PdxReturn}
use Rattle.byte_calls.specs.declared.Changed.{Changed}

-- no word; the state or not
abbrev pub only_state : Bool → Changed
only_state b = record { state = b; from = 0; to = 0 }

-- WR: its word
abbrev pub access_run : Access → Changed
access_run (Read a) = only_state false
access_run (Write a x) = cond (leb 8192 a) (only_state false) (record { state = false; from = a; to = a + 1 })
access_run (Execute a) = only_state false
access_run (Lookup a r) = only_state false

-- the first word of a page, and the end of a run of pages, both within the store
abbrev pub page_start : ℕ → ℕ
page_start p = cond (leb 128 p) 8192 (64 * p)

abbrev pub page_end : ℕ → ℕ → ℕ
page_end p n = cond (leb 128 p) 8192 (cond (leb 128 n) 8192 (page_start (p + n)))

-- CR: the words of its run
abbrev pub object_run : ObjectCall → Changed
object_run (Create p n k a) = record { state = true; from = page_start p; to = page_end p n }
object_run (Delete b) = only_state true
object_run (AddPassword b k m) = only_state true
object_run (DropPassword b k) = only_state true
object_run (Register b k l es) = only_state true

-- GT leaves the state
abbrev pub domain_run : DomainCall → Changed
domain_run (Insert i l) = only_state true
domain_run (Remove i) = only_state true
domain_run Get = only_state false
domain_run (Lock i) = only_state true
domain_run (PdxCall a ch) = only_state true
domain_run PdxReturn = only_state true

abbrev pub changed_by : Call → Changed
changed_by (OnStore c) = access_run c
changed_by (OnObject c) = object_run c
changed_by (OnDomain c) = domain_run c
