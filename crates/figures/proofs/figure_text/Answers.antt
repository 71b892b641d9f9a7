use Rattle.std.proofs.Common.{◌∙◌, ◌≡◌, [], arith}
use Rattle.text.specs.Texts.{texts_behind, texts_behind_more}
use Rattle.figures.specs.Lines.{figure_line, figure_lines}
use Rattle.figures.proofs.figure_text.Goals as goal

pub loop-a-init : goal.loop-a-init
unfolding texts_behind
loop-a-init c = record { lines = c.new-text.ensures; bound = rw c.new-text.ensures (omega arith) }

pub loop-a-preserved : goal.loop-a-preserved
loop-a-preserved c = record {
  lines = rw c.loop-a.invariant.lines at c.put_figure.ensures.0 ∙ texts_behind_more [] c.loop-a.a (figure_line c.args.t);
  bound = omega (arith, c.put_figure.ensures.1, c.loop-a.invariant.bound);
}

pub returns : goal.returns
unfolding texts_behind figure_lines
returns c = let e : c.loop-a.a ≡ 4 = omega arith in rw e at c.loop-a.invariant.lines
