use Rattle.clists.specs.Opening.{opening_start, opening_next, opening_stop, opening_over}
use Rattle.clists.proofs.opened_in.Goals as goal

pub loop-o-init : goal.loop-o-init
loop-o-init g c = opening_start

pub returns-then-has_base : goal.returns-then-has_base
returns-then-has_base g c = opening_stop c.loop-o.invariant c.loop-o-test.true c.has_base.ensures c.if-has_base.true c.opened_by.ensures

pub loop-o-preserved : goal.loop-o-preserved
loop-o-preserved g c = opening_next c.loop-o.invariant c.loop-o-test.true c.has_base.ensures c.if-has_base.false

pub returns : goal.returns
returns g c = opening_over c.loop-o.invariant c.loop-o-test.false
