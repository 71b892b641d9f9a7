use Rattle.std.proofs.Common.{◌∙◌, ◌≡◌, arith}
use Rattle.text.specs.Texts.{texts_behind, texts_behind_more}
use Rattle.listing.specs.Lines.{header, listing}
use Rattle.listing.proofs.listing_text.Goals as goal

pub loop-e-init : goal.loop-e-init
unfolding texts_behind
loop-e-init c = let p : c.put_bytes.new.self ≡ header = rw c.new-text.ensures at c.put_bytes.ensures in record { lines = p; bound = rw p (omega arith) }

pub loop-e-preserved : goal.loop-e-preserved
loop-e-preserved c = record {
  lines = rw c.loop-e.invariant.lines at c.put_estate.ensures.0 ∙ texts_behind_more header c.loop-e.e-index _;
  bound = omega (arith, c.put_estate.ensures.1, c.loop-e.invariant.bound);
}

pub returns : goal.returns
unfolding texts_behind listing
returns c = let e : c.loop-e.e-index ≡ 4 = omega arith in rw e at c.loop-e.invariant.lines
