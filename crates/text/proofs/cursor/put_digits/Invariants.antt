use Rattle.text.specs.Spelled.{Spelling}
use Rattle.text.proofs.cursor.put_digits.Given as goal

abbrev pub invariant-loop-i : goal.invariant-loop-i
invariant-loop-i l = Spelling l.initial.out l.at l.n l.k l.out l.rest l.i

abbrev pub decreases-loop-i : goal.decreases-loop-i
decreases-loop-i l = l.i
