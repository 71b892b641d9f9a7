use Rattle.std.proofs.Common.{◌≡◌, ◌+◌, ◌*◌, ◌≤◌, length, get_or}
use Rattle.state.specs.Places.{no_estate}
use Rattle.text.specs.Texts.{texts_behind}
use Rattle.listing.specs.Lines.{header, estate_lines}
use Rattle.listing.proofs.listing_text.Given as goal

abbrev pub invariant-loop-e : goal.invariant-loop-e
invariant-loop-e l = record {
  lines : l.text ≡ texts_behind header l.e-index (λ d. estate_lines (get_or l.e-items d no_estate));
  bound : length l.text ≤ 33 + 840 * l.e-index;
}
