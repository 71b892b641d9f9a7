-- What the call program writes for an input: document 01, "The call program".
use Rattle.std.specs.Prelude.{ℕ, ◌+◌, cond, ltb, eqb, length, replicate}
use mathlib.Core.List.{List, [], ◌∷◌, ◌++◌, foldl}
use Rattle.state.specs.Places.{empty_state}
use Rattle.calls.specs.View.{World}
use Rattle.calls.specs.Step.{world, step}
use Rattle.lines.specs.Grammar.{line_of}
use Rattle.text.specs.Answer.{answer_line}
use Rattle.replies.specs.Reply.{Reply, Carrying, reply}

-- the program between two bytes: the number of the line that it reads, the bytes of that line so far, and what it wrote
pub record Progress : Type 0 where
  pub world : World
  pub number : ℕ
  pub line : List ℕ
  pub text : List ℕ

-- the number of the next line; a line past the last number of 64 bits has that number
abbrev pub next_number : ℕ → ℕ
next_number n = cond (ltb n 18446744073709551615) (n + 1) n

-- a line is answered, and the next one begins
abbrev pub line_done : Progress → Reply → Progress
line_done r a =
    record {
      world = a.world;
      number = next_number r.number;
      line = [];
      text = r.text ++ answer_line r.number a.number a.values;
    }

abbrev pub with_line : Progress → List ℕ → Progress
with_line r line = record { world = r.world; number = r.number; line = line; text = r.text }

-- a byte of the input: a line feed ends the line, any other byte is `more` of it
unfoldable pub on_byte_by : Carrying → (List ℕ → ℕ → List ℕ) → Progress → ℕ → Progress
on_byte_by carry more r b = cond (eqb b 10) (line_done r (reply carry r.world (line_of r.line))) (with_line r (more r.line b))

abbrev pub extended : List ℕ → ℕ → List ℕ
extended line b = line ++ (b ∷ [])

abbrev pub on_byte : Progress → ℕ → Progress
on_byte = on_byte_by step extended

-- line,answer,value and the line feed
abbrev pub header : List ℕ
header = 108 ∷ 105 ∷ 110 ∷ 101 ∷ 44 ∷ 97 ∷ 110 ∷ 115 ∷ 119 ∷ 101 ∷ 114 ∷ 44 ∷ 118 ∷ 97 ∷ 108 ∷ 117 ∷ 101 ∷ 10 ∷ []

-- at first: no object, a store of zeros, line 1, and the header written
unfoldable pub started : Progress
started = record { world = world empty_state (replicate 8192 0); number = 1; line = []; text = header }

-- what is written behind the last line feed: answer 1 to a line that has begun there
unfoldable pub last_line : Progress → List ℕ
last_line r = cond (eqb (length r.line) 0) [] (answer_line r.number 1 (0 ∷ []))

-- WHAT THE PROGRAM WRITES
unfoldable pub output : List ℕ → List ℕ
output input = (foldl on_byte started input).text ++ last_line (foldl on_byte started input)
