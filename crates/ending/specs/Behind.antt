-- The world behind an input: what the programs that print at the end of their input share (document 02, T-05 and T-06).
use Rattle.std.specs.Prelude.{ℕ, ◌≡◌, refl, length, take, replicate}
use Rattle.std.proofs.Common.{◌∙◌, ap, arith, take_all}
use mathlib.Core.List.{List, [], ◌∷◌, ◌++◌, foldl, foldl-append}
use Rattle.state.specs.declared.Table.{Table}
use Rattle.calls.specs.View.{World}
use Rattle.calls.specs.Step.{world, step}
use Rattle.lines.specs.Grammar.{line_of}
use Rattle.lines.specs.Until.{until}
use Rattle.lines.specs.Reading.{unreadable}
use Rattle.replies.specs.Reply.{reply}
use Rattle.stream.specs.Run.{Progress, on_byte_by, extended, on_byte, started}
use Rattle.stream.specs.Feed.{start_feed, joined, Reached}
use Rattle.stream.specs.Feeding.{before_feed}
use Rattle.stream.specs.Reached.{reached_world}
use Rattle.stream.specs.declared.Feed.{Feed}
use Rattle.turns.specs.Led.{Led, led_world}

-- THE WORLD BEHIND AN INPUT: state and store that the call program has when all of it is read
unfoldable pub behind : List ℕ → World
behind input = (foldl on_byte started input).world

abbrev pub table_behind : List ℕ → Table
table_behind input = (behind input).state.table

-- an object table that some input leaves
pub record Left (t : Table) : Type 0 where
  pub input : List ℕ
  pub is : t ≡ table_behind input

pub reached_left : (f : Feed) (words : List ℕ) → Reached (replicate 8192 0) f words → Left f.state.table
unfolding behind
reached_left f words r = record { input = r.input; is = ap (λ (w : World). w.state.table) (reached_world f words r) }

-- FOR ANY PIECES OF AN INPUT: from a store of zeros they lead to the world behind the whole input
pub pieces_behind : (ps : List (List ℕ)) (f : Feed) (words : List ℕ) → Led start_feed (replicate 8192 0) ps f words → world f.state words ≡ behind (joined ps)
unfolding behind
pieces_behind ps f words l = led_world ps f words l

-- A LAST LINE WITHOUT ITS LINE FEED is passed over: bytes with no line feed among them
pub unfinished_behind : (input rest : List ℕ) → until 10 rest ≡ length rest → behind (input ++ rest) ≡ behind input
unfolding behind
unfinished_behind input rest e =
    let r : Progress = foldl on_byte started input in
    let all : take (until 10 rest) rest ≡ rest = take_all (until 10 rest) rest (omega arith) in
    ap (λ (p : Progress). p.world) (foldl-append on_byte started input rest ∙ rw all at (before_feed step extended rest r))

-- A LINE THAT IS NOT READABLE is passed over, with its line feed
pub unreadable_behind : (input : List ℕ) → line_of (foldl on_byte started input).line ≡ unreadable → behind (input ++ (10 ∷ [])) ≡ behind input
unfolding behind on_byte_by reply
unreadable_behind input e = ap (λ (p : Progress). p.world) (foldl-append on_byte started input (10 ∷ [])) ∙ rw e refl
