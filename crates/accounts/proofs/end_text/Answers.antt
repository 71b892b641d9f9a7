use Rattle.ending.specs.Printed.{left_printed}
use Rattle.figures.specs.Lines.{figure_lines}
use Rattle.accounts.proofs.end_text.Goals as goal

pub returns : goal.returns
returns c = rw c.figure_text.ensures (left_printed figure_lines _ c.end_table.ensures)
