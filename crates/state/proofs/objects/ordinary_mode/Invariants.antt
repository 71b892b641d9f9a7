use lib.Dec.{eqb}
use Rattle.bounded.specs.Search.{Searching}
use Rattle.state.specs.Places.{password_at}
use Rattle.state.proofs.objects.ordinary_mode.Given as goal

abbrev pub invariant-loop-p : goal.invariant-loop-p
invariant-loop-p l = Searching (λ k. eqb (password_at l.fn.o k).word l.word) (λ k. (password_at l.fn.o k).mode) 0 4 l.p-index
