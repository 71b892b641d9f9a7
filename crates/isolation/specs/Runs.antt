-- Runs, and the members' calls of a run: document 01, "Two runs and a group".
use Rattle.std.specs.Prelude.{ℕ, cond, List, [], ◌∷◌, map, ltb}
use Rattle.calls.specs.Arguments.{entry_of}
use Rattle.calls.specs.View.{World}
use Rattle.calls.specs.Step.{Result, world_of}
use Rattle.calls.specs.Boot.{boot}
use Rattle.calls.specs.Step.{answer_of}
use Rattle.calls.specs.Runs.{Event, result_of}
use Rattle.calls.specs.declared.Call.{Call}
use Rattle.calls.specs.declared.Call.TheVariants.{OnStore, OnObject, OnDomain}
use Rattle.calls.specs.declared.ObjectCall.{ObjectCall}
use Rattle.calls.specs.declared.ObjectCall.TheVariants.{Create, Delete, AddPassword, DropPassword, Register}
use Rattle.calls.specs.declared.Entries.{Entries}
use Rattle.isolation.specs.Group.{Group, member}

-- a run: a boot on any store, then any calls by any domains. Claim.antt asks that the boot is answered 0; so the store has 8,192 words
pub record Run : Type 0 where
  pub store : List ℕ
  pub booter : ℕ
  pub plan : List ℕ
  pub events : List Event

abbrev pub boot_result : Run → Result
boot_result r = boot r.store r.booter r.plan

abbrev pub start_of : Run → World
start_of r = world_of (boot_result r)

-- what the members are answered, in order: of each call the number, then the value or the fields of a done GT
unfoldable pub answers : Group → World → List Event → List (List ℕ)
answers G w [] = []
answers G w (e ∷ es) =
    cond (member G e.domain) (answer_of (result_of w e) ∷ answers G (world_of (result_of w e)) es) (answers G (world_of (result_of w e)) es)

-- the members' calls of a list
unfoldable pub members_only : Group → List Event → List Event
members_only G [] = []
members_only G (e ∷ es) = cond (member G e.domain) (e ∷ members_only G es) (members_only G es)

-- what stands past the entry count of RG is no argument, and is blanked
abbrev pub counted_entry : Entries → ℕ → ℕ
counted_entry es k = cond (ltb k es.count) (entry_of es k) 0

abbrev pub counted_entries : Entries → Entries
counted_entries es =
    record { count = es.count; first = counted_entry es 0; second = counted_entry es 1; third = counted_entry es 2; fourth = counted_entry es 3 }

abbrev pub bare : ObjectCall → ObjectCall
bare (Create p n k a) = Create p n k a
bare (Delete b) = Delete b
bare (AddPassword b k m) = AddPassword b k m
bare (DropPassword b k) = DropPassword b k
bare (Register b k l es) = Register b k l (counted_entries es)

abbrev pub blanked : Call → Call
blanked (OnStore c) = OnStore c
blanked (OnObject c) = OnObject (bare c)
blanked (OnDomain c) = OnDomain c

abbrev pub blanked_event : Event → Event
blanked_event e = record { domain = e.domain; call = blanked e.call }

-- the members' calls of a run, known by domain, call and arguments: two runs must agree in these
abbrev pub members_calls : Group → Run → List Event
members_calls G r = map blanked_event (members_only G r.events)
