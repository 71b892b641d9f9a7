use Rattle.std.proofs.Common.{◌≡◌, ◌*◌, ◌≤◌, [], length}
use Rattle.text.specs.Texts.{texts_behind}
use Rattle.figures.specs.Lines.{figure_line}
use Rattle.figures.proofs.figure_text.Given as goal

abbrev pub invariant-loop-a : goal.invariant-loop-a
invariant-loop-a l = record { lines : l.text ≡ texts_behind [] l.a (figure_line l.t); bound : length l.text ≤ 42 * l.a }
