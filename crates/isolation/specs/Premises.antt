-- The premises of demand 3: document 01, "Two runs and a group", and of the accounts document 02, T-05.
use Rattle.std.specs.Prelude.{ℕ, ◌/◌, ◌<◌, ◌≡◌, Bool, true, false, not, ◌||◌, List, [], ◌∷◌, Option, Some, None}
use Rattle.state.specs.Places.{slot_at, saved_at, domain_at}
use Rattle.state.specs.Lookup.{object_based, has_password}
use Rattle.state.specs.Pages.{in_set}
use Rattle.state.specs.declared.Table.{Table}
use Rattle.state.specs.declared.Frame.{Frame}
use Rattle.judge.specs.Pairs.{pairs_at, first_word, second_word}
use Rattle.calls.specs.Answers.{number_of}
use Rattle.calls.specs.View.{Want, nothing, rights, World, first_failing}
use Rattle.calls.specs.Rule.{Touch, touches_nothing, touches_word, touches_object, touches_slots}
use Rattle.calls.specs.Rules.{touched, wanted, presented, early}
use Rattle.calls.specs.Step.{world_of}
use Rattle.calls.specs.Boot.{limit_of, account_of, set_of}
use Rattle.calls.specs.Runs.{Event, result_of}
use Rattle.calls.specs.declared.Call.{Call}
use Rattle.calls.specs.declared.Presented.{Presented}
use Rattle.isolation.specs.Group.{Group, member, inside_page, inside_address}
use Rattle.isolation.specs.Runs.{Run, start_of}

-- a capability is true for no outside object: its page is inside, or no object with that base has its password
unfoldable pub stays_inside : Group → Table → ℕ → ℕ → Bool
stays_inside G t page password = inside_page G page || not (has_password (object_based t page) password)

-- so of the capability that a call holds, IN its own and RG its list's, in the table that the call finds; no other call holds one
abbrev pub HeldInside : Group → Table → Option Presented → Type 0
HeldInside G t None = Unit {0}
HeldInside G t (Some l) = stays_inside G t l.page l.password ≡ true

-- so of each slot in use of a frame, and of a domain's active and saved frames
abbrev pub FrameInside : Group → Table → Frame → Type 0
FrameInside G t f = (k : ℕ) → k < f.count → stays_inside G t (slot_at f k).page (slot_at f k).password ≡ true

pub record SlotsInside (G : Group) (w : World) (d : ℕ) : Type 0 where
  pub slots : FrameInside G w.state.table (domain_at w.state d).active
  pub saved : (k : ℕ) → k < (domain_at w.state d).depth → FrameInside G w.state.table (saved_at (domain_at w.state d) k)

-- so of each pair in the Clists of a frame's live slots
abbrev pub ListsInside : Group → World → Frame → Type 0
ListsInside G w f =
    (slot place : ℕ) → slot < 8 → place < pairs_at w.state.table w.words f slot
    → stays_inside G w.state.table (first_word w.state.table w.words f slot place / 256)
    (second_word w.state.table w.words f slot place) ≡ true

-- a call is judged: it wants rights, and passes each check before that
abbrev pub wants : Want → Bool
wants nothing = false
wants (rights target r) = true

pub record Judges (w : World) (e : Event) : Type 0 where
  pub reached : first_failing (early e.domain e.call (domain_at w.state e.domain).active) ≡ None
  pub asks : wants (wanted e.call) ≡ true

-- what a done call touches is inside: WR by its address, DL, AP, DP and RG by their base
abbrev pub touches_inside : Group → Touch → Bool
touches_inside G touches_nothing = false
touches_inside G (touches_word a) = inside_address G a
touches_inside G (touches_object b) = inside_page G b
touches_inside G touches_slots = false

abbrev pub changes_inside : Group → Call → Bool
changes_inside G c = touches_inside G (touched c)

-- what is asked of a member's call, and of an outsider's
pub record MemberCall (G : Group) (w : World) (e : Event) : Type 0 where
  pub held : HeldInside G w.state.table (presented e.call)
  pub lists : Judges w e → ListsInside G w (domain_at w.state e.domain).active

pub record OutsiderCall (G : Group) (w : World) (e : Event) : Type 0 where
  pub granted : number_of (result_of w e).outcome.answer ≡ 0 → changes_inside G e.call ≡ false

-- the premises in a state, of a call there, and along a list of calls, its first and last state included
pub record StatePremise (G : Group) (w : World) : Type 0 where
  pub members : (d : ℕ) → member G d ≡ true → SlotsInside G w d

pub record CallPremise (G : Group) (w : World) (e : Event) : Type 0 where
  pub of_member : member G e.domain ≡ true → MemberCall G w e
  pub of_outsider : member G e.domain ≡ false → OutsiderCall G w e

abbrev pub Along : Group → World → List Event → Type 0
Along G w [] = StatePremise G w
Along G w (e ∷ es) = StatePremise G w × (CallPremise G w e × Along G (world_of (result_of w e)) es)

abbrev pub Premises : Group → Run → Type 0
Premises G r = Along G (start_of r) r.events

-- document 02, T-05: by the sets that a boot gave, no account may be charged by a member and by an outsider; a number above 3 was given no set
abbrev pub AccountsApart : Group → (ℕ → ℕ) → Type 0
AccountsApart G sets = (d e a : ℕ) → member G d ≡ true → member G e ≡ false → e < 4 → in_set (sets d) a ≡ true → in_set (sets e) a ≡ false

-- document 02, T-05: two boots gave a domain the same home account and the same set, and the accounts in the set the same limits
pub record SameAccounts (plan plan' : List ℕ) (d : ℕ) : Type 0 where
  pub home : account_of plan d ≡ account_of plan' d
  pub set : set_of plan d ≡ set_of plan' d
  pub limit : (a : ℕ) → in_set (set_of plan d) a ≡ true → limit_of plan a ≡ limit_of plan' a
