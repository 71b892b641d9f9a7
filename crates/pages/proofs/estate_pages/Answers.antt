use Rattle.std.proofs.Common.{◌≡◌, ◌∙◌, arith, refl}
use Rattle.bounded.specs.Sum.{total}
use Rattle.state.specs.Pages.{estate_pages}
use Rattle.pages.proofs.Counted.{one_more}
use Rattle.pages.proofs.estate_pages.Goals as goal

pub loop-o-init : goal.loop-o-init
unfolding total
loop-o-init c = record { counted = refl; fits = omega arith }

pub loop-o-preserved : goal.loop-o-preserved
loop-o-preserved c =
    record {
      counted = one_more _ _ _ _ c.loop-o.invariant.counted (c.from-pages.ensures ∙ c.pages_on.ensures);
      fits = omega (arith, c.loop-o.invariant.fits);
    }

pub returns : goal.returns
unfolding estate_pages
returns c = let e : c.loop-o.o-index ≡ 8 = omega arith in rw e at c.loop-o.invariant.counted
