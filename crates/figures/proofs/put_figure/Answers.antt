use Rattle.figures.specs.Lines.{figure_put}
use Rattle.figures.proofs.put_figure.Goals as goal

pub returns : goal.returns
returns c = figure_put c.args.t c.args.a 168 c.args.text.now _ c.requires (rw c.pages_of.ensures at c.put_line.ensures)
