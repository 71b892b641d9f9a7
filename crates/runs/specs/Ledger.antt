-- The ledger of an account along a list of calls: document 02, T-05.
use Rattle.std.specs.Prelude.{ℕ, ◌+◌, ◌<◌, ◌≤◌, Bool, cond, List, [], ◌∷◌, eqb}
use Rattle.state.specs.Places.{limit_at}
use Rattle.state.specs.Lookup.{object_based}
use Rattle.state.specs.Pages.{pages_on, pages_of}
use Rattle.state.specs.declared.Table.{Table}
use Rattle.state.specs.declared.State.{State}
use Rattle.calls.specs.Answers.{number_of}
use Rattle.calls.specs.View.{World}
use Rattle.calls.specs.Step.{world_of}
use Rattle.calls.specs.Runs.{Event, result_of}
use Rattle.calls.specs.declared.Call.{Call}
use Rattle.calls.specs.declared.Call.TheVariants.{OnStore, OnObject, OnDomain}
use Rattle.calls.specs.declared.ObjectCall.TheVariants.{Create, Delete, AddPassword, DropPassword, Register}

-- the pages that a call asks to create on an account
abbrev pub new_pages : ℕ → Call → ℕ
new_pages a (OnStore c) = 0
new_pages a (OnObject (Create p n k u)) = cond (eqb u a) n 0
new_pages a (OnObject (Delete b)) = 0
new_pages a (OnObject (AddPassword b k m)) = 0
new_pages a (OnObject (DropPassword b k)) = 0
new_pages a (OnObject (Register b k l es)) = 0
new_pages a (OnDomain c) = 0

-- the pages of an account that it asks to delete: those of the object, on its own account, whoever calls
abbrev pub gone_pages : ℕ → Table → Call → ℕ
gone_pages a t (OnStore c) = 0
gone_pages a t (OnObject (Create p n k u)) = 0
gone_pages a t (OnObject (Delete b)) = pages_on a (object_based t b)
gone_pages a t (OnObject (AddPassword b k m)) = 0
gone_pages a t (OnObject (DropPassword b k)) = 0
gone_pages a t (OnObject (Register b k l es)) = 0
gone_pages a t (OnDomain c) = 0

-- the call is answered 0
abbrev pub granted : World → Event → Bool
granted w e = eqb (number_of (result_of w e).outcome.answer) 0

-- the pages of granted creations along a list, and those of granted deletions
unfoldable pub created : ℕ → World → List Event → ℕ
created a w [] = 0
created a w (e ∷ es) = cond (granted w e) (new_pages a e.call) 0 + created a (world_of (result_of w e)) es

unfoldable pub deleted : ℕ → World → List Event → ℕ
deleted a w [] = 0
deleted a w (e ∷ es) = cond (granted w e) (gone_pages a w.state.table e.call) 0 + deleted a (world_of (result_of w e)) es

-- no account's figure is above its limit
abbrev pub WithinLimits : State → Type 0
WithinLimits s = (a : ℕ) → a < 4 → pages_of s.table a ≤ limit_at s.accounts a
