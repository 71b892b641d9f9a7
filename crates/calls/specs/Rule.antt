-- What a call says of itself: document 01, "In checking order". What calls share stands in a constructor here; Rules.antt has the calls.
use Rattle.std.specs.Prelude.{ℕ, Bool, true, not, List, [], ltb, Option, None}
use Rattle.state.specs.declared.Object.{Object}
use Rattle.state.specs.declared.Frame.{Frame}
use Rattle.judge.specs.declared.Target.TheVariants.{Address, Base}
use Rattle.calls.specs.Answers.{no_fields}
use Rattle.calls.specs.View.{Want, nothing, rights, Charge, View, Check, object_of}
use Rattle.calls.specs.Changes.{Change, active}
use Rattle.calls.specs.declared.Presented.{Presented}
use Rattle.calls.specs.declared.Fields.{Fields}

-- what a done call changes beside its caller's own estate and locks: nothing, a word, the object with a base, the caller's slots
pub data Touch : Type 0 where
  touches_nothing : Touch
  touches_word : ℕ → Touch
  touches_object : ℕ → Touch
  touches_slots : Touch

-- what a call says of itself, by the numbers of the checks
pub record Rule : Type 0 where
  -- 5: its arguments are in range
  pub range : Bool
  -- 6: the locks of the caller's frame let it pass
  pub unlocked : Frame → Bool
  -- 7: the rights that it wants, and the Clist capability that it presents
  pub want : Want
  pub presents : Option Presented
  -- 14 and 15: what it charges
  pub charges : Option Charge
  -- 8 to 12, with 14 and 15 behind 9
  pub rest : ℕ → View → List Check
  -- what it answers and changes once it is done
  pub value : View → ℕ
  pub fields : View → Fields
  pub changes : ℕ → View → List Change
  pub touch : Touch

-- a rule by its parts, in this order
abbrev pub says : Bool → (Frame → Bool) → Want → Option Presented → Option Charge → (ℕ → View → List Check) → (View → ℕ) → (View → Fields)
    → (ℕ → View → List Change) → Touch → Rule
says range unlocked want presents charges rest value fields changes touch =
    record {
      range = range;
      unlocked = unlocked;
      want = want;
      presents = presents;
      charges = charges;
      rest = rest;
      value = value;
      fields = fields;
      changes = changes;
      touch = touch;
    }

-- no lock stops the call; the whole lock does
abbrev pub always : Frame → Bool
always f = true

abbrev pub unless_whole : Frame → Bool
unless_whole f = not f.whole

-- it has no value; it reports no fields
abbrev pub valueless : View → ℕ
valueless v = 0

abbrev pub untold : View → Fields
untold v = no_fields

-- an address of the store, and a page
abbrev pub in_store : ℕ → Bool
in_store a = ltb a 8192

abbrev pub is_page : ℕ → Bool
is_page p = ltb p 128

-- one of the four accounts
abbrev pub is_account : ℕ → Bool
is_account a = ltb a 4

-- an access: rights at an address
abbrev pub access : Bool → ℕ → ℕ → (View → ℕ) → List Change → Touch → Rule
access range a r value changes touch = says range always (rights (Address a) r) None None (λ d v. []) value untold (λ d v. changes) touch

-- a call on the object with a base; where no object has that base, nothing is granted
abbrev pub on_object : Bool → (Frame → Bool) → ℕ → ℕ → Option Presented → (Object → List Check) → (View → List Change) → Rule
on_object range unlocked b r presents rest changes =
    says range unlocked (rights (Base b) r) presents None (λ d v. rest (object_of v.found)) valueless untold (λ d. changes) (touches_object b)

-- a call on the slots and locks of the caller's frame
abbrev pub on_frame : Bool → (Frame → Bool) → Option Presented → (Frame → List Check) → (Frame → Frame) → Touch → Rule
on_frame range unlocked presents rest after touch =
    says range unlocked nothing presents None (λ d v. rest v.domain.active) valueless untold (λ d v. active d v (after v.domain.active)) touch
