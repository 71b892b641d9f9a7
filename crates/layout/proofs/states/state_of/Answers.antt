use borrow.Author.Tests.{eq-eqb, ne_eqb}
use Rattle.layout.specs.Whole.{state_of}
use Rattle.layout.proofs.states.state_of.Goals as goal

pub returns-then-bytes-ne-STATE : goal.returns-then-bytes-ne-STATE
unfolding state_of
returns-then-bytes-ne-STATE c = rw (ne_eqb _ _ c.if-bytes-ne-STATE.true) c.empty_state.ensures

pub returns : goal.returns
unfolding state_of
returns c = rw (eq-eqb _ _ c.if-bytes-ne-STATE.false) c.load.ensures
