-- What a C function does with its three slices: document 02, T-02.
use Rattle.std.specs.Prelude.{ℕ, Bool, true, false, cond, ◌&&◌, List, eqb, length, Ok, Err}
use Rattle.std.specs.Result.{is_ok}
use Rattle.layout.specs.Sizes.{state_size}
use Rattle.layout.specs.Layout.{state}
use Rattle.image.specs.Image.{reading}
use Rattle.calls.specs.Answers.{refusal_number, values_of}
use Rattle.calls.specs.Step.{Result, world, step}
use Rattle.calls.specs.Boot.{boot}
use Rattle.calls.specs.declared.Call.{Call}
use Rattle.calls.specs.Answers.{Answer}
use Rattle.calls.specs.declared.Outcome.{Outcome}
use Rattle.slices.specs.Slices.{words, values, cleared}

-- the image of the state, the bytes of the store, and the values
pub record Slices : Type 0 where
  pub image : List ℕ
  pub store : List ℕ
  pub values : List ℕ

-- the answer number, and the slices after the call
pub record Told : Type 0 where
  pub number : ℕ
  pub after : Slices

abbrev pub slices : List ℕ → List ℕ → List ℕ → Slices
slices image store values = record { image = image; store = store; values = values }

abbrev pub told : ℕ → Slices → Told
told n after = record { number = n; after = after }

-- refused: what `refused_changes_nothing` (calls) is for the slices, with the values cleared
abbrev pub refused_by : ℕ → Slices → Told
refused_by n s = told n (slices s.image s.store (cleared s.values))

-- done, the slices hold the state, the words and the values
abbrev pub answered_as : Answer → Slices → Outcome → List ℕ → Told
answered_as (Ok value) s o ws = told 0 (slices (state.put o.state) (words.put ws) (values.put (values_of o)))
answered_as (Err why) s o ws = refused_by (refusal_number why) s

abbrev pub told_by : Slices → Outcome → List ℕ → Told
told_by s o ws = answered_as o.answer s o ws

-- the answer 0
abbrev pub is_done : Answer → Bool
is_done a = is_ok a

-- 2 for the store's length; 13 for the values' length, or an image that does not serve; then what the call comes to
unfoldable pub checked_by : Bool → Slices → Result → Told
checked_by serves s r =
    cond (eqb (length s.store) 65536)
    (cond (eqb (length s.values) 88 && serves) (told_by s r.outcome r.words) (refused_by 13 s))
    (refused_by 2 s)

-- any call but BT: the image must read
unfoldable pub called : Slices → ℕ → Call → Told
called s d c = checked_by (reading s.image).readable s (step (world (reading s.image).state (words.get s.store)) d c)

-- BT: the image must have the length
unfoldable pub booted : Slices → ℕ → List ℕ → Told
booted s d plan = checked_by (eqb (length s.image) state_size) s (boot (words.get s.store) d plan)
