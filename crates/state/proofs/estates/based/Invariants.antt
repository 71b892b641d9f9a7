use Rattle.bounded.specs.Search.{Searching}
use Rattle.state.specs.Places.{free_object, object_at}
use Rattle.state.specs.Lookup.{has_base}
use Rattle.state.proofs.estates.based.Given as goal

abbrev pub invariant-loop-o : goal.invariant-loop-o
invariant-loop-o l = Searching (λ k. has_base l.page (object_at l.fn.e k)) (object_at l.fn.e) free_object 8 l.o-index
