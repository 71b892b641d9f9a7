use Rattle.text.specs.Decimal.{Counting}
use Rattle.text.proofs.cursor.places.Given as goal

abbrev pub invariant-loop-k : goal.invariant-loop-k
invariant-loop-k l = Counting l.n l.k l.power
