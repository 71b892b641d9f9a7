use Rattle.std.proofs.Common.{ap, ◌∙◌}
use Rattle.lines.specs.Grammar.{line_of}
use Rattle.stream.specs.Held.{whole_reads}
use Rattle.stream.proofs.held.Held.read.Goals as goal

pub returns-then-self-eq0 : goal.returns-then-self-eq0
returns-then-self-eq0 c = rw c.if-self-eq0.true (c.read_line.ensures.0 ∙ whole_reads _)

pub returns : goal.returns
returns c = c.read_line-2.ensures.0 ∙ ap line_of c.hold.ensures
