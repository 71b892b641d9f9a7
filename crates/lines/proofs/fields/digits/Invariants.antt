use Rattle.lines.specs.Short.{Digits}
use Rattle.lines.proofs.fields.digits.Given as goal

abbrev pub invariant-loop-b : goal.invariant-loop-b
invariant-loop-b l = Digits l.s l.b-index l.v
