-- What the code of the calls promises behind check 3: a function takes the parts of the state that its call reads, and hands back the part that
-- the call changes, or why it is refused. Put into any state with these parts, they make what the call does there.
use Rattle.std.specs.Prelude.{ℕ, ◌/◌, ◌<◌, ◌≡◌, cond, List, ltb, eqb, length, Option, Some, None, Result, Ok, Err}
use Rattle.state.specs.Places.{estate_of, domain_at}
use Rattle.state.specs.Lookup.{place_based}
use Rattle.state.specs.Update.{with_object, remove_object, with_estate, with_domain}
use Rattle.state.specs.declared.Object.{Object}
use Rattle.state.specs.declared.Estate.{Estate}
use Rattle.state.specs.declared.Table.{Table}
use Rattle.state.specs.declared.Frame.{Frame}
use Rattle.state.specs.declared.Domain.{Domain}
use Rattle.state.specs.declared.Accounts.{Accounts}
use Rattle.state.specs.declared.State.{State}
use Rattle.calls.specs.Answers.{no_fields}
use Rattle.calls.specs.Step.{world, result_of, answered_with, unchecked}
use Rattle.calls.specs.declared.Call.TheVariants.{OnStore, OnObject, OnDomain}
use Rattle.calls.specs.declared.Access.{Access}
use Rattle.calls.specs.declared.ObjectCall.{ObjectCall}
use Rattle.calls.specs.declared.DomainCall.{DomainCall}
use Rattle.calls.specs.Answers.{Answer}
use Rattle.calls.specs.declared.Outcome.{Outcome}
use Rattle.calls.specs.declared.Altered.{Altered}
use Rattle.calls.specs.declared.Moved.{Moved}
use Rattle.calls.specs.declared.Refusal.{Refusal}
use Rattle.calls.specs.declared.Refusal.TheVariants.{StoreLength, NoDomain, OutOfRange}

-- checks 2 and 4, of a store with so many words
abbrev pub caller_of : ℕ → ℕ → Result ℕ Refusal
caller_of n d = cond (eqb n 8192) (cond (ltb d 4) (Ok d) (Err NoDomain)) (Err StoreLength)

-- both passed
pub record Entered (words : List ℕ) (d : ℕ) : Type 0 where
  pub long : length words ≡ 8192
  pub known : d < 4

-- what a done call on objects hands back: the estate in which the page lies, as it is then
abbrev pub altered : ℕ → Estate → Result Altered Refusal
altered b e = cond (ltb b 128) (Ok (record { place = b / 32; estate = e })) (Err OutOfRange)

-- an estate with another object at a place, or without the one there
abbrev pub replaced : Estate → ℕ → Option Object → Estate
replaced e k (Some o) = with_object e k o
replaced e k None = remove_object e k

-- where the object with a base becomes another, and where it goes
abbrev pub becoming : Table → ℕ → Object → Result Altered Refusal
becoming t b o = altered b (with_object (estate_of t b) (place_based (estate_of t b) b) o)

abbrev pub going : Table → ℕ → Result Altered Refusal
going t b = altered b (remove_object (estate_of t b) (place_based (estate_of t b) b))

-- and by a done one on the caller's domain that domain, with no fields
abbrev pub moved : Domain → ℕ → Moved
moved m value = record { value = value; fields = no_fields; domain = m }

-- an estate, and the domain of the caller, put into a state; a refused call leaves the state
abbrev pub with_altered : State → Result Altered Refusal → Outcome
with_altered s (Ok new) = answered_with (with_estate s new.place new.estate) (Ok 0)
with_altered s (Err why) = answered_with s (Err why)

abbrev pub with_moved : State → ℕ → Result Moved Refusal → Outcome
with_moved s d (Ok new) = record { answer = Ok new.value; fields = new.fields; state = with_domain s d new.domain }
with_moved s d (Err why) = answered_with s (Err why)

-- AN ACCESS, by a table and the caller's frame: its answer, and the words after it, for any store and any domain that has this frame; the state
-- stays as it is
abbrev pub Answers : Table → Frame → List ℕ → Access → Answer → List ℕ → Type 0
Answers t f words c a words' =
    (s : State) (d : ℕ) → d < 4 → s.table ≡ t → (domain_at s d).active ≡ f
    → result_of (answered_with s a) words' ≡ unchecked (world s words) d (OnStore c)

-- A CALL ON OBJECTS, by a table, the accounts, the caller and its frame: the estate that it changes or why it is refused, and the words after it,
-- for any store and any caller; that of a domain above 3 has no frame to agree with
pub record Alters (t : Table) (x : Accounts) (d : ℕ) (f : Frame) (words : List ℕ) (c : ObjectCall) (r : Result Altered Refusal) (words' : List ℕ) : Type 0 where
  pub does : (s : State) → s.table ≡ t → s.accounts ≡ x → (d < 4 → (domain_at s d).active ≡ f)
      → result_of (with_altered s r) words' ≡ unchecked (world s words) d (OnObject c)
  -- the estate is one of the four
  pub place : (new : Altered) → r ≡ Ok new → new.place < 4

-- A CALL ON THE CALLER'S DOMAIN, by a table and that domain: what it comes to or why it is refused, for any store
abbrev pub Moves : Table → Domain → List ℕ → DomainCall → Result Moved Refusal → Type 0
Moves t m words c r =
    (s : State) (d : ℕ) → d < 4 → s.table ≡ t → domain_at s d ≡ m
    → result_of (with_moved s d r) words ≡ unchecked (world s words) d (OnDomain c)
