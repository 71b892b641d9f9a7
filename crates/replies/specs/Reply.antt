-- What a line is answered with: document 01, "The call program".
use Rattle.std.specs.Prelude.{ℕ, List, [], ◌∷◌, Ok, Err}
use Rattle.state.specs.declared.State.{State}
use Rattle.calls.specs.Answers.{number_of, values_of}
use Rattle.calls.specs.View.{World}
use Rattle.calls.specs.Step.{Result, world, world_of}
use Rattle.calls.specs.Boot.{boot}
use Rattle.calls.specs.declared.Call.{Call}
use Rattle.calls.specs.Answers.{Answer}
use Rattle.lines.specs.Reading.{Reading, answered, boot_by, call_by}

-- what a line is answered with: a number, what stands behind it, and the state and store after it
pub record Reply : Type 0 where
  pub number : ℕ
  pub values : List ℕ
  pub world : World

-- how a call is carried out: `step`, or `unchecked` where the state is known to be sound
abbrev pub Carrying : Type 0
Carrying = World → ℕ → Call → Result

-- a line that is answered at once, as by 1 where it is not readable, changes nothing
abbrev pub at_once : ℕ → World → Reply
at_once number w = record { number = number; values = 0 ∷ []; world = w }

-- the result of a call, as a reply
abbrev pub called : Result → Reply
called r = record { number = number_of r.outcome.answer; values = values_of r.outcome; world = world_of r }

-- a BT that is refused keeps the state that the program had
abbrev pub state_after : State → Answer → State → State
state_after old (Ok value) new = new
state_after old (Err why) new = old

abbrev pub booted_from : World → Result → Reply
booted_from w r =
    record {
      number = number_of r.outcome.answer;
      values = values_of r.outcome;
      world = world (state_after w.state r.outcome.answer r.outcome.state) r.words;
    }

abbrev pub boot_reply : World → ℕ → List ℕ → Reply
boot_reply w d plan = booted_from w (boot w.words d plan)

-- what is answered to a line
unfoldable pub reply : Carrying → World → Reading → Reply
reply carry w (answered number) = at_once number w
reply carry w (boot_by d plan) = boot_reply w d plan
reply carry w (call_by d c) = called (carry w d c)
