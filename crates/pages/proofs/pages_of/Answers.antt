use Rattle.std.proofs.Common.{◌≡◌, ◌∙◌, arith, refl}
use Rattle.bounded.specs.Sum.{total}
use Rattle.state.specs.Pages.{pages_of}
use Rattle.pages.proofs.Counted.{one_more}
use Rattle.pages.proofs.pages_of.Goals as goal

pub loop-e-init : goal.loop-e-init
unfolding total
loop-e-init c = record { counted = refl; fits = omega arith }

pub loop-e-preserved : goal.loop-e-preserved
loop-e-preserved c =
    record {
      counted = one_more _ _ _ _ c.loop-e.invariant.counted (c.from-pages.ensures ∙ c.estate_pages.ensures);
      fits = omega (arith, c.loop-e.invariant.fits);
    }

pub returns : goal.returns
unfolding pages_of
returns c = let e : c.loop-e.e-index ≡ 4 = omega arith in rw e at c.loop-e.invariant.counted
