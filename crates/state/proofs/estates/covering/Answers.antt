use mathlib.Core.Path.{◌∙◌, sym}
use lib.Dec.{leb}
use borrow.Author.Tests.{le-leb, lt-leb, lt-ltb, le-ltb}
use Rattle.bounded.specs.Bools.{cond_same}
use Rattle.bounded.specs.Search.{start, next, stop, over}
use Rattle.state.specs.Places.{free_object}
use Rattle.state.specs.Lookup.{covering}
use Rattle.state.proofs.estates.covering.Goals as goal

pub loop-o-init : goal.loop-o-init
unfolding covering
loop-o-init c = start

pub returns-then-base-page : goal.returns-then-base-page
unfolding covering
returns-then-base-page c = rw (← stop c.loop-o.invariant c.loop-o-test.true (lt-ltb _ _ c.if-page-base.true), le-leb _ _ c.if-base-page.true)

pub returns-else-base-page : goal.returns-else-base-page
unfolding covering
returns-else-base-page c = rw (← stop c.loop-o.invariant c.loop-o-test.true (lt-ltb _ _ c.if-page-base.true), lt-leb _ _ c.if-base-page.false)
    c.free_object.ensures

pub loop-o-preserved : goal.loop-o-preserved
unfolding covering
loop-o-preserved c = next c.loop-o.invariant c.loop-o-test.true (le-ltb _ _ c.if-page-base.false)

pub returns : goal.returns
unfolding covering
returns c = rw (← over c.loop-o.invariant c.loop-o-test.false)
    (c.free_object-2.ensures ∙ sym (cond_same (leb 0 c.args.page) free_object))
