-- The places of the state, read by number. What stands past the end of an array is all zero.
use Rattle.std.specs.Prelude.{ℕ, ◌/◌, false, [], get_or, replicate}
use Rattle.state.specs.declared.Capability.{Capability}
use Rattle.state.specs.declared.Password.{Password}
use Rattle.state.specs.declared.Registration.{Registration}
use Rattle.state.specs.declared.Object.{Object}
use Rattle.state.specs.declared.Estate.{Estate}
use Rattle.state.specs.declared.Table.{Table}
use Rattle.state.specs.declared.Frame.{Frame}
use Rattle.state.specs.declared.Domain.{Domain}
use Rattle.state.specs.declared.Accounts.{Accounts}
use Rattle.state.specs.declared.State.{State}

-- past the end of an array: all zero, with no places of its own
abbrev pub no_capability : Capability
no_capability = record { page = 0; password = 0 }

abbrev pub no_password : Password
no_password = record { word = 0; mode = 0 }

abbrev pub no_registration : Registration
no_registration = record { password = 0; list = no_capability; count = 0; entries = [] }

abbrev pub no_object : Object
no_object = record { base = 0; pages = 0; passwords = []; registration = no_registration; account = 0 }

abbrev pub no_estate : Estate
no_estate = record { objects = [] }

abbrev pub no_frame : Frame
no_frame = record { slots = []; count = 0; locked = 0; whole = false }

abbrev pub no_domain : Domain
no_domain = record { active = no_frame; saved = []; depth = 0 }

-- what a free place holds
abbrev pub free_registration : Registration
free_registration = record { password = 0; list = no_capability; count = 0; entries = replicate 4 0 }

abbrev pub free_object : Object
free_object = record { base = 0; pages = 0; passwords = replicate 4 no_password; registration = free_registration; account = 0 }

abbrev pub empty_estate : Estate
empty_estate = record { objects = replicate 8 free_object }

abbrev pub empty_frame : Frame
empty_frame = record { slots = replicate 8 no_capability; count = 0; locked = 0; whole = false }

abbrev pub empty_domain : Domain
empty_domain = record { active = empty_frame; saved = replicate 4 empty_frame; depth = 0 }

-- before a boot: limits of 0 and empty sets (document 02, T-05)
abbrev pub no_accounts : Accounts
no_accounts = record { limits = replicate 4 0; sets = replicate 4 0 }

-- no object, no slot, and no account that may be charged
abbrev pub empty_state : State
empty_state = record { table = record { estates = replicate 4 empty_estate }; domains = replicate 4 empty_domain; accounts = no_accounts }

-- what stands at a place
abbrev pub slot_at : Frame → ℕ → Capability
slot_at f k = get_or f.slots k no_capability

abbrev pub saved_at : Domain → ℕ → Frame
saved_at m k = get_or m.saved k no_frame

abbrev pub password_at : Object → ℕ → Password
password_at o k = get_or o.passwords k no_password

abbrev pub entry_at : Object → ℕ → ℕ
entry_at o k = get_or o.registration.entries k 0

abbrev pub object_at : Estate → ℕ → Object
object_at e k = get_or e.objects k no_object

abbrev pub estate_at : Table → ℕ → Estate
estate_at t d = get_or t.estates d no_estate

abbrev pub domain_at : State → ℕ → Domain
domain_at s d = get_or s.domains d no_domain

-- the limit of an account, and the set of accounts that a domain may charge
abbrev pub limit_at : Accounts → ℕ → ℕ
limit_at x a = get_or x.limits a 0

abbrev pub set_at : Accounts → ℕ → ℕ
set_at x d = get_or x.sets d 0

-- the estate in which a page lies: document 01, "Ground and bounds", item 2, 32 pages to each
abbrev pub estate_of : Table → ℕ → Estate
estate_of t page = estate_at t (page / 32)
