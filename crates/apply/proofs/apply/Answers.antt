use mathlib.Core.Path.{sym, ◌∙◌}
use borrow.Author.Tests.{not-true, not-false}
use Rattle.calls.specs.Laws.Unchecked.{step_unchecked, step_unsound}
use mathlib.Core.Path.{ap}
use mathlib.Core.Bool.{not}
use Rattle.apply.proofs.apply.Goals as goal

pub returns-then-not-admits : goal.returns-then-not-admits
returns-then-not-admits c = rw c.answered.ensures (sym (step_unsound _ _ _ (sym c.admits.ensures ∙ not-true _ (ap not c.if-not-admits.true))))

pub returns : goal.returns
returns c = c.unchecked.ensures ∙ sym (step_unchecked _ _ _ (sym c.admits.ensures ∙ not-false _ (ap not c.if-not-admits.false)))
