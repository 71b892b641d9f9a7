use borrow.Author.Tests.{eq-eqb, ne_eqb}
use mathlib.Core.Bool.{and-true}
use Rattle.layout.specs.Layout.{domains, state}
use Rattle.layout.specs.Whole.{truths_ok}
use Rattle.layout.specs.Laws.States.{table_ok, accounts_ok}
use Rattle.layout.proofs.states.truths_ok.Goals as goal

pub returns-then-bytes-eq-STATE : goal.returns-then-bytes-eq-STATE
unfolding domains state truths_ok
returns-then-bytes-eq-STATE c = rw (eq-eqb _ _ c.if-bytes-eq-STATE.true, table_ok, accounts_ok, and-true) c.array_ok.ensures

pub returns-else-bytes-eq-STATE : goal.returns-else-bytes-eq-STATE
unfolding truths_ok
returns-else-bytes-eq-STATE c = rw (ne_eqb _ _ c.if-bytes-eq-STATE.false)
