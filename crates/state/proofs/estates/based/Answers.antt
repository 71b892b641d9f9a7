use mathlib.Core.Path.{◌∙◌, sym}
use Rattle.bounded.specs.Search.{start, next, stop, over}
use Rattle.state.specs.Lookup.{based}
use Rattle.state.proofs.estates.based.Goals as goal

pub loop-o-init : goal.loop-o-init
unfolding based
loop-o-init c = start

pub returns-then-has_base : goal.returns-then-has_base
unfolding based
returns-then-has_base c = stop c.loop-o.invariant c.loop-o-test.true (sym c.has_base.ensures ∙ c.if-has_base.true)

pub loop-o-preserved : goal.loop-o-preserved
unfolding based
loop-o-preserved c = next c.loop-o.invariant c.loop-o-test.true (sym c.has_base.ensures ∙ c.if-has_base.false)

pub returns : goal.returns
unfolding based
returns c = c.free_object.ensures ∙ over c.loop-o.invariant c.loop-o-test.false
