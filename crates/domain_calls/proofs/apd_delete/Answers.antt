use mathlib.Core.Path.{refl}
use Rattle.std.proofs.Common.{rules}
use borrow.Author.Tests.{tests}
use Rattle.calls.specs.Rules.{rule, in_range, unlocked, late, changes}
use Rattle.calls.specs.Laws.Parts.{moves_done}
use Rattle.calls.proofs.Parts.{moves_range, moves_lock, moves_late}
use Rattle.domain_calls.proofs.apd_delete.Goals as goal

pub returns-then-slot-ge8 : goal.returns-then-slot-ge8
unfolding rule in_range
returns-then-slot-ge8 c t words long = moves_range _ _ _ _ long (search (rules, tests)) refl

pub returns-then-not-unlocked_at : goal.returns-then-not-unlocked_at
unfolding rule in_range unlocked
returns-then-not-unlocked_at c t words long = moves_lock _ _ _ _ long (search (rules, tests)) (cc) refl

pub returns-then-from-slot : goal.returns-then-from-slot
unfolding rule in_range unlocked late
returns-then-from-slot c t words long = moves_late _ _ _ _ long (search (rules, tests)) (cc) (λ d. search (rules, tests)) refl

pub returns : goal.returns
unfolding rule in_range unlocked late changes
returns c t words long = moves_done _ _ _ _ long (search (rules, tests)) (cc) (λ d. search (rules, tests)) (λ d s. search (rules, tests))
