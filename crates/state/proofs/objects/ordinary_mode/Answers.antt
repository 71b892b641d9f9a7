use borrow.Author.Tests.{eq-eqb, ne_eqb}
use Rattle.bounded.specs.Search.{start, next, stop, over}
use Rattle.state.specs.Lookup.{ordinary_mode}
use Rattle.state.proofs.objects.ordinary_mode.Goals as goal

pub returns-then-word-eq0 : goal.returns-then-word-eq0
unfolding ordinary_mode
returns-then-word-eq0 c = rw (eq-eqb _ _ c.if-word-eq0.true)

pub loop-p-init : goal.loop-p-init
loop-p-init c = start

pub returns-then-p-word : goal.returns-then-p-word
unfolding ordinary_mode
returns-then-p-word c = rw (ne_eqb _ _ c.if-word-eq0.false) (stop c.loop-p.invariant c.loop-p-test.true (eq-eqb _ _ c.if-p-word.true))

pub loop-p-preserved : goal.loop-p-preserved
loop-p-preserved c = next c.loop-p.invariant c.loop-p-test.true (ne_eqb _ _ c.if-p-word.false)

pub returns : goal.returns
unfolding ordinary_mode
returns c = rw (ne_eqb _ _ c.if-word-eq0.false) (over c.loop-p.invariant c.loop-p-test.false)
