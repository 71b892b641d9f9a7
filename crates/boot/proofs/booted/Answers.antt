use mathlib.Core.Path.{sym, ◌∙◌}
use borrow.Author.Tests.{not-true, not-false}
use mathlib.Core.Path.{ap}
use mathlib.Core.Bool.{not}
use Rattle.boot.proofs.booted.Goals as goal

pub returns-then-not-plan_ok : goal.returns-then-not-plan_ok
returns-then-not-plan_ok c = rw (sym c.plan_ok.ensures ∙ not-true c.plan_ok.result (ap not c.if-not-plan_ok.true)) (rw (c.answered.ensures, c.empty_state.ensures))

pub boot_state-requires : goal.boot_state-requires
boot_state-requires c = sym c.plan_ok.ensures ∙ not-false c.plan_ok.result (ap not c.if-not-plan_ok.false)

pub returns : goal.returns
returns c = rw (sym c.plan_ok.ensures ∙ not-false c.plan_ok.result (ap not c.if-not-plan_ok.false))
    (rw (c.answered-2.ensures, c.boot_state.ensures, c.boot_words.ensures))
