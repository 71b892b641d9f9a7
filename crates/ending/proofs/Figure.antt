-- The figure of an account behind an input: what its ledger has.
use Rattle.std.specs.Prelude.{ℕ, ◌+◌, ◌<◌, ◌≡◌, Bool, true, false, cond, eqb}
use mathlib.Core.List.{List, [], ◌∷◌, foldl}
use Rattle.std.proofs.Common.{arith}
use Rattle.state.specs.Pages.{pages_of}
use Rattle.calls.specs.Step.{step}
use Rattle.runs.specs.Laws.Unbooted.{empty_unbooted}
use Rattle.lines.specs.Grammar.{line_of}
use Rattle.replies.specs.Reply.{reply}
use Rattle.stream.specs.Run.{Progress, line_done, with_line, on_byte_by, extended, on_byte, started}
use Rattle.ending.specs.Behind.{behind, table_behind}
use Rattle.ending.specs.Ledger.{Ledger, pages, booked, booked_byte, booked_from, ledger_behind, Balanced, line_balanced}

bytes_balanced : (a : ℕ) (bs : List ℕ) (r : Progress) (l : Ledger) → Balanced a r.world l → Balanced a (foldl on_byte r bs).world (booked_from a r bs l)
unfolding booked_from on_byte_by
bytes_balanced a [] r l h = h
bytes_balanced a (b ∷ bs) r l h = bytes_balanced a bs (on_byte r b) (booked_byte a r b l) (go (eqb b 10))
  where
    go : (t : Bool)
        → Balanced a (cond t (line_done r (reply step r.world (line_of r.line))) (with_line r (extended r.line b))).world
        (cond t (booked a r.world (line_of r.line) l) l)
    go true = line_balanced a r.world (line_of r.line) l h
    go false = h

-- THE FIGURE BEHIND AN INPUT, that is the pages of all objects on the account: what the last granted boot and the granted CRs since put on it, without
-- what the granted DLs took off; here with the latter on the other side
pub figure_behind : (a : ℕ) (input : List ℕ) → a < 4 → pages_of (table_behind input) a + (ledger_behind a input).deleted ≡ (ledger_behind a input).created
unfolding behind ledger_behind started
figure_behind a input l =
    let first = empty_unbooted.figure a l in
    (bytes_balanced a input started (pages 0 0) (record { is_sound = empty_unbooted.is_sound; balance = omega (arith, first) })).balance
