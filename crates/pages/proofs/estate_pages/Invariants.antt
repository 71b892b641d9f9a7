use Rattle.std.proofs.Common.{◌≡◌, ◌*◌, ◌≤◌}
use Rattle.bounded.specs.Sum.{total}
use Rattle.state.specs.Places.{object_at}
use Rattle.state.specs.Pages.{pages_on}
use Rattle.pages.proofs.estate_pages.Given as goal

abbrev pub invariant-loop-o : goal.invariant-loop-o
invariant-loop-o l = record { counted : l.pages ≡ total l.o-index (λ k. pages_on l.a (object_at l.fn.e k)); fits : l.pages ≤ 255 * l.o-index }
