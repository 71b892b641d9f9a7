use Rattle.layout.specs.Laws.Words.{Loading}
use Rattle.layout.proofs.words.read_words.Given as goal

abbrev pub invariant-loop-i : goal.invariant-loop-i
invariant-loop-i l = Loading l.initial.words l.bytes l.words l.i
