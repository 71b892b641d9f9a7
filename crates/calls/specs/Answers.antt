-- Each answer as numbers: that of document 01, "In checking order", and of document 02, T-05, and what stands behind it.
use Rattle.std.specs.Prelude.{ℕ, suc, cond, List, [], ◌∷◌, eqb, take, replicate, Option, Some, None, Result, Ok, Err}
use Rattle.calls.specs.declared.Refusal.{Refusal}
use Rattle.calls.specs.declared.Refusal.TheVariants.{StoreLength, Unsound, NoDomain, OutOfRange, Locked, NotGranted, NotEntry, NoRun, NotPermitted, LimitPassed, HasPassword, Full, Missing}
use Rattle.calls.specs.declared.Fields.{Fields}
use Rattle.calls.specs.declared.Outcome.{Outcome}

abbrev pub refusal_number : Refusal → ℕ
refusal_number StoreLength = 2
refusal_number Unsound = 3
refusal_number NoDomain = 4
refusal_number OutOfRange = 5
refusal_number Locked = 6
refusal_number NotGranted = 7
refusal_number NotEntry = 8
refusal_number NoRun = 9
refusal_number NotPermitted = 14
refusal_number LimitPassed = 15
refusal_number HasPassword = 10
refusal_number Full = 11
refusal_number Missing = 12

-- every refusal, in checking order: 14 and 15 come behind 9 (document 02, T-05)
abbrev pub refusals : List Refusal
refusals =
    StoreLength
    ∷ Unsound
    ∷ NoDomain
    ∷ OutOfRange
    ∷ Locked
    ∷ NotGranted
    ∷ NotEntry
    ∷ NoRun
    ∷ NotPermitted
    ∷ LimitPassed
    ∷ HasPassword
    ∷ Full
    ∷ Missing
    ∷ []

-- the refusal of a list that has a number; how many stand there before it
abbrev pub numbered : ℕ → List Refusal → Option Refusal
numbered n [] = None
numbered n (r ∷ rs) = cond (eqb (refusal_number r) n) (Some r) (numbered n rs)

abbrev pub place_in : ℕ → List Refusal → ℕ
place_in n [] = 0
place_in n (r ∷ rs) = cond (eqb (refusal_number r) n) 0 (suc (place_in n rs))

-- the place of a refusal in checking order
abbrev pub refusal_place : Refusal → ℕ
refusal_place r = place_in (refusal_number r) refusals

-- how a call is answered: done, with a value, or refused
abbrev pub Answer : Type 0
Answer = Result ℕ Refusal

-- a done call answers 0
abbrev pub number_of : Answer → ℕ
number_of (Ok value) = 0
number_of (Err r) = refusal_number r

-- a refused one gives the value 0
abbrev pub value_of : Answer → ℕ
value_of (Ok value) = value
value_of (Err r) = 0

abbrev pub no_fields : Fields
no_fields = record { count = 0; values = replicate 11 0 }

-- what stands behind the number: the value, or the fields of a done GT
abbrev pub values_from : Answer → Fields → List ℕ
values_from a f = cond (eqb f.count 0) (value_of a ∷ []) (take f.count f.values)

abbrev pub values_of : Outcome → List ℕ
values_of o = values_from o.answer o.fields
