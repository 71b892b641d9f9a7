-- What the calls change, part by part: document 01, "The calls", by letters. Each is defined for every value, unsound ones too.
use Rattle.std.specs.Prelude.{ℕ, ◌+◌, ◌-◌, max, min, true, false, cond, ◌&&◌, List, ◌∷◌, leb, ltb, eqb, set, replicate}
use Rattle.bounded.specs.Fill.{tabulate}
use Rattle.bounded.specs.Shift.{put_in, taken_out}
use Rattle.rights.specs.Modes.{owner}
use Rattle.state.specs.Places.{no_capability, no_password, free_registration, free_object, empty_frame, slot_at, saved_at, password_at, object_at}
use Rattle.state.specs.Lookup.{place_of, free_password_place, place_above}
use Rattle.state.specs.declared.Capability.{Capability}
use Rattle.state.specs.declared.Password.{Password}
use Rattle.state.specs.declared.Registration.{Registration}
use Rattle.state.specs.declared.Object.{Object}
use Rattle.state.specs.declared.Estate.{Estate}
use Rattle.state.specs.declared.Frame.{Frame}
use Rattle.state.specs.declared.Domain.{Domain}
use Rattle.state.specs.declared.State.{State}

-- the slot at k once c stands at `at`: the slots from there on are numbered one higher
abbrev pub slot_in : Frame → ℕ → Capability → ℕ → Capability
slot_in f = put_in (slot_at f)

-- a slot more at a place, where there is room
unfoldable pub insert_slot : Frame → ℕ → Capability → Frame
insert_slot f at c =
    cond (ltb f.count 8)
    (record { slots = tabulate 8 (slot_in f at c); count = f.count + 1; locked = f.locked; whole = f.whole })
    f

-- the slot at k once that at `at` is gone: the slots behind it are numbered one lower
abbrev pub slot_out : Frame → ℕ → ℕ → Capability
slot_out f = taken_out (slot_at f) 7 no_capability

-- a slot less, where it stands
unfoldable pub remove_slot : Frame → ℕ → Frame
remove_slot f at =
    cond (ltb at f.count)
    (record { slots = tabulate 8 (slot_out f at); count = f.count - 1; locked = f.locked; whole = f.whole })
    f

-- LO: the slots up to this one are locked, and none is unlocked; 255 stands for the whole lock, which changes no count
unfoldable pub lock_slot : Frame → ℕ → Frame
lock_slot f slot =
    cond (eqb slot 255)
    (record { slots = f.slots; count = f.count; locked = f.locked; whole = true })
    (record { slots = f.slots; count = f.count; locked = max f.locked (slot + 1); whole = f.whole })

-- CA, merge: the registered Clist goes in behind the locked slots; with none locked it is second, or first in an empty list
unfoldable pub merge_list : Frame → Capability → Frame
merge_list f c = insert_slot f (cond (eqb f.locked 0) (min 1 f.count) f.locked) c

-- CA, empty: the registered Clist alone, without locks
unfoldable pub only_list : Capability → Frame
only_list c = record { slots = c ∷ replicate 7 no_capability; count = 1; locked = 0; whole = false }

-- another active frame
abbrev pub with_active : Domain → Frame → Domain
with_active m f = record { active = f; saved = m.saved; depth = m.depth }

-- CA: the active frame is saved and another takes its place, where there is room
unfoldable pub save_domain : Domain → Frame → Domain
save_domain m f = cond (ltb m.depth 4) (record { active = f; saved = set m.saved m.depth m.active; depth = m.depth + 1 }) m

-- RT: the frame saved last is the active one again, where there is one, and its place is cleared
unfoldable pub restore_domain : Domain → Domain
restore_domain m =
    cond (ltb 0 m.depth && leb m.depth 4)
    (record { active = saved_at m (m.depth - 1); saved = set m.saved (m.depth - 1) empty_frame; depth = m.depth - 1 })
    m

-- a new object on an account, with one password in the owner's mode, 15
unfoldable pub new_object : ℕ → ℕ → ℕ → ℕ → Object
new_object base pages word account =
    record {
      base = base;
      pages = pages;
      passwords = record { word = word; mode = owner } ∷ replicate 3 no_password;
      registration = free_registration;
      account = account;
    }

-- other passwords, another registration
abbrev pub with_passwords : Object → List Password → Object
with_passwords o ps = record { base = o.base; pages = o.pages; passwords = ps; registration = o.registration; account = o.account }

abbrev pub with_registration : Object → Registration → Object
with_registration o g = record { base = o.base; pages = o.pages; passwords = o.passwords; registration = g; account = o.account }

-- a password more, behind the last: document 02, T-06, oldest first
unfoldable pub add_password : Object → ℕ → ℕ → Object
add_password o word mode = with_passwords o (set o.passwords (free_password_place o) (record { word = word; mode = mode }))

-- the ordinary password at k once that at `at` is gone: the younger ones close the gap
abbrev pub password_out : Object → ℕ → ℕ → Password
password_out o = taken_out (password_at o) 3 no_password

-- DP: an ordinary password goes, or the whole registration whose password it is
unfoldable pub drop_password : Object → ℕ → Object
drop_password o word =
    cond (eqb word 0) o
    (cond (eqb o.registration.password word) (with_registration o free_registration)
    (with_passwords o (tabulate 4 (password_out o (place_of o word)))))

-- another object at a place of the estate
abbrev pub with_object : Estate → ℕ → Object → Estate
with_object e k o = record { objects = set e.objects k o }

-- CR: an object more, before the first with a higher base: document 02, T-06, by rising base
abbrev pub object_in : Estate → ℕ → Object → ℕ → Object
object_in e = put_in (object_at e)

unfoldable pub insert_object : Estate → Object → Estate
insert_object e o = record { objects = tabulate 8 (object_in e (place_above e o.base) o) }

-- DL: an object less; those behind it close the gap
abbrev pub object_out : Estate → ℕ → ℕ → Object
object_out e = taken_out (object_at e) 7 free_object

unfoldable pub remove_object : Estate → ℕ → Estate
remove_object e at = record { objects = tabulate 8 (object_out e at) }

-- another estate, another domain
abbrev pub with_estate : State → ℕ → Estate → State
with_estate s d e = record { table = record { estates = set s.table.estates d e }; domains = s.domains; accounts = s.accounts }

abbrev pub with_domain : State → ℕ → Domain → State
with_domain s d m = record { table = s.table; domains = set s.domains d m; accounts = s.accounts }
