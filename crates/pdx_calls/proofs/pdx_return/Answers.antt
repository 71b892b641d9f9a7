use mathlib.Core.Path.{refl}
use Rattle.std.proofs.Common.{rules}
use borrow.Author.Tests.{tests}
use Rattle.calls.specs.Rules.{rule, in_range, unlocked, late, changes}
use Rattle.calls.specs.Laws.Parts.{moves_done}
use Rattle.calls.proofs.Parts.{moves_late}
use Rattle.pdx_calls.proofs.pdx_return.Goals as goal

pub returns-then-m-eq0 : goal.returns-then-m-eq0
unfolding rule in_range unlocked late
returns-then-m-eq0 c t words long = moves_late _ _ _ _ long refl refl (λ d. search (rules, tests)) refl

pub returns : goal.returns
unfolding rule in_range unlocked late changes
returns c t words long = moves_done _ _ _ _ long refl refl (λ d. search (rules, tests)) (λ d s. search (rules, tests))
