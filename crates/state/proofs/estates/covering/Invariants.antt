use Rattle.bounded.specs.Search.{Searching}
use Rattle.state.specs.Places.{free_object, object_at}
use Rattle.state.specs.Lookup.{ends_behind}
use Rattle.state.proofs.estates.covering.Given as goal

abbrev pub invariant-loop-o : goal.invariant-loop-o
invariant-loop-o l = Searching (λ k. ends_behind l.page (object_at l.fn.e k)) (object_at l.fn.e) free_object 8 l.o-index
