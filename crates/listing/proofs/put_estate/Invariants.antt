use Rattle.std.proofs.Common.{◌≡◌, ◌+◌, ◌*◌, ◌≤◌, length}
use Rattle.state.specs.Places.{object_at}
use Rattle.text.specs.Texts.{texts_behind}
use Rattle.listing.specs.Lines.{place_line}
use Rattle.listing.proofs.put_estate.Given as goal

abbrev pub invariant-loop-o : goal.invariant-loop-o
invariant-loop-o l = record {
  lines : l.text ≡ texts_behind l.initial.text l.o-index (λ k. place_line (object_at l.e k));
  bound : length l.text ≤ length l.initial.text + 105 * l.o-index;
}
