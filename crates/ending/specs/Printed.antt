-- What a program prints at the end of its input, for any text of the object table: document 02, T-05 and T-06.
use Rattle.std.specs.Prelude.{ℕ, ◌≡◌, length, replicate}
use Rattle.std.proofs.Common.{ap}
use mathlib.Core.List.{List, [], ◌∷◌, ◌++◌, foldl}
use Rattle.state.specs.declared.Table.{Table}
use Rattle.calls.specs.View.{World}
use Rattle.lines.specs.Grammar.{line_of}
use Rattle.lines.specs.Until.{until}
use Rattle.lines.specs.Reading.{unreadable}
use Rattle.stream.specs.Run.{on_byte, started}
use Rattle.stream.specs.Feed.{start_feed, joined}
use Rattle.stream.specs.declared.Feed.{Feed}
use Rattle.turns.specs.Led.{Led}
use Rattle.ending.specs.Behind.{table_behind, Left, pieces_behind, unfinished_behind, unreadable_behind}

module _ (text : Table → List ℕ) where
  -- WHAT IS PRINTED FOR AN INPUT: the text of the object table that the call program has behind it
  abbrev pub printed_for : List ℕ → List ℕ
  printed_for input = text (table_behind input)

  -- bytes that are printed for some input
  pub record Printed (bytes : List ℕ) : Type 0 where
    pub input : List ℕ
    pub is : bytes ≡ printed_for input

  pub left_printed : (t : Table) → Left t → Printed (text t)
  left_printed t l = record { input = l.input; is = ap text l.is }

  abbrev text_in : World → List ℕ
  text_in w = text w.state.table

  -- FOR ANY PIECES OF AN INPUT: where they lead, the text is that of the whole input
  pub pieces_printed : (ps : List (List ℕ)) (f : Feed) (words : List ℕ) → Led start_feed (replicate 8192 0) ps f words → text f.state.table ≡ printed_for (joined ps)
  pieces_printed ps f words l = ap text_in (pieces_behind ps f words l)

  -- PASSED OVER: bytes with no line feed among them, and the line feed of a line that is not readable
  pub unfinished_passed : (input rest : List ℕ) → until 10 rest ≡ length rest → printed_for (input ++ rest) ≡ printed_for input
  unfinished_passed input rest e = ap text_in (unfinished_behind input rest e)

  pub unreadable_passed : (input : List ℕ) → line_of (foldl on_byte started input).line ≡ unreadable → printed_for (input ++ (10 ∷ [])) ≡ printed_for input
  unreadable_passed input e = ap text_in (unreadable_behind input e)
