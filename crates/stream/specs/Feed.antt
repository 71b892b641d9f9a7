-- Where the program stands, what a turn of it is, and which input leads there.
use Rattle.std.specs.Prelude.{ℕ, ◌+◌, ◌≤◌, ◌≡◌, Bool, not, cond, ◌||◌, leb, ltb, eqb, length, take, replicate}
use mathlib.Core.List.{List, [], ◌∷◌, ◌++◌, foldl}
use Rattle.state.specs.Places.{empty_state}
use Rattle.state.specs.declared.State.{State}
use Rattle.calls.specs.Step.{world, unchecked}
use Rattle.lines.specs.Grammar.{line_bytes}
use Rattle.text.specs.Answer.{printed, printed_end}
use Rattle.replies.specs.Reply.{Carrying}
use Rattle.stream.specs.Run.{Progress, with_line, on_byte_by}
use Rattle.stream.specs.declared.Feed.{Feed}

-- the first `held` bytes of the line, and the first `at` bytes of the buffer
abbrev pub progress_at : State → List ℕ → ℕ → List ℕ → ℕ → List ℕ → ℕ → Progress
progress_at s words number line held out at = record { world = world s words; number = number; line = take held line; text = take at out }

abbrev pub progress_of : Feed → List ℕ → List ℕ → Progress
progress_of f words out = progress_at f.state words f.number f.line f.held out f.at

-- of a line it holds one byte more than the longest has, enough to tell that it is too long; the code's `HELD_BYTES`
abbrev pub held_bytes : ℕ
held_bytes = line_bytes + 1

-- what it holds at first
abbrev pub start_feed : Feed
start_feed = record { state = empty_state; number = 1; line = replicate held_bytes 0; held = 0; at = 0; taken = 0 }

-- an empty buffer after the last line, and where the text in it ends
abbrev pub finished_text : Feed → List ℕ → List ℕ
finished_text f out = cond (eqb f.held 0) out (printed out 0 f.number 1 (0 ∷ []))

abbrev pub finished_end : Feed → List ℕ → ℕ
finished_end f out = cond (eqb f.held 0) 0 (printed_end out 0 f.number 1 (0 ∷ []))

-- the longest answer has 42 + 21 × 11 bytes
abbrev pub room_for : ℕ → ℕ → Bool
room_for length at = leb (at + 273) length

-- the piece is taken to its end, or there is no room for the longest answer
abbrev pub stopped : ℕ → ℕ → ℕ → ℕ → Bool
stopped piece out taken at = eqb taken piece || not (room_for out at)

-- one byte more, where it is held
abbrev pub held_byte : List ℕ → ℕ → List ℕ
held_byte line b = cond (ltb (length line) held_bytes) (line ++ (b ∷ [])) line

abbrev pub on_held : Carrying → Progress → ℕ → Progress
on_held carry = on_byte_by carry held_byte

-- a progress with the bytes of its line that are held
abbrev pub cut : Progress → Progress
cut r = with_line r (take held_bytes r.line)

-- the same run with nothing written yet
abbrev pub flushed : Progress → Progress
flushed r = record { world = r.world; number = r.number; line = r.line; text = [] }

-- the pieces put together
abbrev pub joined : List (List ℕ) → List ℕ
joined [] = []
joined (p ∷ ps) = p ++ joined ps

-- the same with an empty buffer
abbrev pub emptied : Feed → Feed
emptied f = record { state = f.state; number = f.number; line = f.line; held = f.held; at = 0; taken = f.taken }

-- what is written from a feed on: for each piece that `feed_piece` takes from an empty buffer its text, and what `finish` adds
pub data Turns : Feed → List ℕ → List (List ℕ) → List ℕ → Type 0 where
  finish : (f : Feed) (words out : List ℕ) → length f.line ≡ held_bytes → 273 ≤ length out → Turns f words [] (take (finished_end f out) (finished_text f out))
  turn : (f : Feed) (words out : List ℕ) (p : List ℕ) (f' : Feed) (words' out' : List ℕ) (ps : List (List ℕ)) (t : List ℕ)
      → progress_of f' words' out' ≡ foldl (on_held unchecked) (progress_of (emptied f) words out) p → Turns f' words' ps t
      → Turns f words (p ∷ ps) (take f'.at out' ++ t)

-- state, store, number and the line that is read
abbrev pub standing : Feed → List ℕ → Progress
standing f words = record { world = world f.state words; number = f.number; line = take f.held f.line; text = [] }

-- the bytes of s lead from one feed and store to another
abbrev pub Leads : Feed → List ℕ → List ℕ → Feed → List ℕ → Type 0
Leads f words s f' words' = standing f' words' ≡ flushed (foldl (on_held unchecked) (standing f words) s)

-- some input leads there from the start
pub record Reached (words : List ℕ) (f : Feed) (words' : List ℕ) : Type 0 where
  pub input : List ℕ
  pub led : Leads start_feed words input f words'
