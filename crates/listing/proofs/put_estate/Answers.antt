use Rattle.std.proofs.Common.{◌∙◌, ◌≡◌, arith, refl}
use Rattle.state.specs.Places.{object_at}
use Rattle.text.specs.Texts.{texts_behind, texts_behind_more}
use Rattle.listing.specs.Lines.{place_line, estate_lines}
use Rattle.listing.specs.Laws.{texts_are}
use Rattle.listing.proofs.put_estate.Goals as goal

pub loop-o-init : goal.loop-o-init
unfolding texts_behind
loop-o-init c = record { lines = refl; bound = omega arith }

pub loop-o-preserved : goal.loop-o-preserved
loop-o-preserved c = record {
  lines = rw c.loop-o.invariant.lines at c.put_place.ensures.0 ∙ texts_behind_more c.args.text.now c.loop-o.o-index (λ k. place_line (object_at c.args.e.now k));
  bound = omega (arith, c.put_place.ensures.1, c.loop-o.invariant.bound);
}

pub returns : goal.returns
unfolding estate_lines
returns c = let e : c.loop-o.o-index ≡ 8 = omega arith in
    (rw e at c.loop-o.invariant.lines ∙ texts_are c.args.text.now 8 (λ k. place_line (object_at c.args.e.now k)), omega (arith, c.loop-o.invariant.bound))
