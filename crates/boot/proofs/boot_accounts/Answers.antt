use native.Mathlib.Omega.{arith}
use borrow.Author.Rules.{rules}
use Rattle.calls.specs.Boot.{boot_accounts}
use Rattle.calls.specs.Laws.Plan.{plan_bounds}
use Rattle.boot.proofs.boot_accounts.Goals as goal

pub overflow_cast-result : goal.overflow_cast-result
unfolding boot_accounts
overflow_cast-result c = search (rules, (plan_bounds _ c.requires).low 0 (omega arith))

pub overflow_cast-result-2 : goal.overflow_cast-result-2
unfolding boot_accounts
overflow_cast-result-2 c = search (rules, (plan_bounds _ c.requires).low 1 (omega arith))

pub overflow_cast-result-3 : goal.overflow_cast-result-3
unfolding boot_accounts
overflow_cast-result-3 c = search (rules, (plan_bounds _ c.requires).low 2 (omega arith))

pub overflow_cast-result-4 : goal.overflow_cast-result-4
unfolding boot_accounts
overflow_cast-result-4 c = search (rules, (plan_bounds _ c.requires).low 3 (omega arith))

pub overflow_cast-result-5 : goal.overflow_cast-result-5
unfolding boot_accounts
overflow_cast-result-5 c = search (rules, (plan_bounds _ c.requires).small 0 (omega arith))

pub overflow_cast-result-6 : goal.overflow_cast-result-6
unfolding boot_accounts
overflow_cast-result-6 c = search (rules, (plan_bounds _ c.requires).small 1 (omega arith))

pub overflow_cast-result-7 : goal.overflow_cast-result-7
unfolding boot_accounts
overflow_cast-result-7 c = search (rules, (plan_bounds _ c.requires).small 2 (omega arith))

pub overflow_cast-result-8 : goal.overflow_cast-result-8
unfolding boot_accounts
overflow_cast-result-8 c = search (rules, (plan_bounds _ c.requires).small 3 (omega arith))

pub returns : goal.returns
unfolding boot_accounts
returns c = cc
