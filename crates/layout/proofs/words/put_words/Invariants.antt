use Rattle.layout.specs.Laws.Words.{Putting}
use Rattle.layout.proofs.words.put_words.Given as goal

abbrev pub invariant-loop-i : goal.invariant-loop-i
invariant-loop-i l = Putting l.from l.to l.initial.bytes l.words l.bytes l.i
