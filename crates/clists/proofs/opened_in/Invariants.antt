use Rattle.clists.specs.Opening.{Opening}
use Rattle.clists.proofs.opened_in.Given as goal

abbrev pub invariant-loop-o : goal.invariant-loop-o
invariant-loop-o g l = Opening (record { objects = l.o-items }) l.c l.o-index
