-- What every call does: it reads a view, is checked against it, and answers with a value and changes.
use Rattle.std.specs.Prelude.{ℕ, Bool, not, ◌||◌, List, ◌∷◌, eqb, length, Option, Some, None, Ok, Err}
use Rattle.soundness.specs.Sound.{sound}
use Rattle.state.specs.declared.State.{State}
use Rattle.judge.specs.Judged.{judged}
use Rattle.calls.specs.Answers.{no_fields, number_of, values_of}
use Rattle.calls.specs.View.{World, Judging, View, Check, check, first_failing}
use Rattle.calls.specs.Changes.{apply_all}
use Rattle.calls.specs.Rules.{view, checks, value, fields, changes}
use Rattle.calls.specs.declared.Call.{Call}
use Rattle.calls.specs.declared.Refusal.{Refusal}
use Rattle.calls.specs.declared.Refusal.TheVariants.{StoreLength, Unsound}
use Rattle.calls.specs.Answers.{Answer}
use Rattle.calls.specs.declared.Outcome.{Outcome}

-- what a call hands back: the outcome with the new state, and the words of the store
pub record Result : Type 0 where
  pub outcome : Outcome
  pub words : List ℕ

abbrev pub world : State → List ℕ → World
world s words = record { state = s; words = words }

abbrev pub result_of : Outcome → List ℕ → Result
result_of o words = record { outcome = o; words = words }

abbrev pub world_of : Result → World
world_of r = world r.outcome.state r.words

-- the answer as numbers: the paper's number, then its values
abbrev pub answer_of : Result → List ℕ
answer_of r = number_of r.outcome.answer ∷ values_of r.outcome

-- an answer without fields, with the state after it
abbrev pub answered_with : State → Answer → Outcome
answered_with s a = record { answer = a; fields = no_fields; state = s }

-- a refused call's outcome (`refused_changes_nothing`, proofs/Passed.antt)
abbrev pub refused_with : State → Refusal → Outcome
refused_with s r = answered_with s (Err r)

abbrev pub refused : World → Refusal → Result
refused w r = result_of (refused_with w.state r) w.words

-- a done call's outcome, without fields
abbrev pub done_with : State → ℕ → Outcome
done_with s value = answered_with s (Ok value)

abbrev pub done : World → ℕ → Call → View → Result
done w d c v =
    result_of (record { answer = Ok (value c v); fields = fields c v; state = (apply_all (changes d c v) w).state })
    (apply_all (changes d c v) w).words

abbrev pub concluded : Option Refusal → World → ℕ → Call → View → Result
concluded None w d c v = done w d c v
concluded (Some r) w d c v = refused w r

-- 2: the store has 8,192 words
abbrev pub store_check : World → Check
store_check w = check StoreLength (eqb (length w.words) 8192)

-- 3: the state is sound
abbrev pub sound_check : World → Check
sound_check w = check Unsound (sound w.state)

-- a call by a domain, with judging as a parameter; every check in order
unfoldable pub step_by : Judging → World → ℕ → Call → Result
step_by judging w d c =
    concluded (first_failing (store_check w ∷ sound_check w ∷ checks d c (view judging w d c))) w d c (view judging w d c)

-- the same with check 3 left out
unfoldable pub unchecked_by : Judging → World → ℕ → Call → Result
unchecked_by judging w d c = concluded (first_failing (store_check w ∷ checks d c (view judging w d c))) w d c (view judging w d c)

-- what every call does
abbrev pub step : World → ℕ → Call → Result
step = step_by judged

-- what every call does where check 3 is left out, since the state is known to be sound
abbrev pub unchecked : World → ℕ → Call → Result
unchecked = unchecked_by judged

-- check 3 passes, or is not reached
unfoldable pub admitted : World → Bool
admitted w = not (eqb (length w.words) 8192) || sound w.state
