use mathlib.Core.Path.{refl}
use Rattle.std.proofs.Common.{rules}
use borrow.Author.Tests.{tests}
use Rattle.calls.specs.Rules.{rule, in_range, unlocked, late, changes}
use Rattle.calls.specs.Laws.Parts.{moves_done}
use Rattle.calls.proofs.Parts.{moves_range, moves_late}
use Rattle.domain_calls.proofs.apd_lock.Goals as goal

pub returns-then-slot-eq255 : goal.returns-then-slot-eq255
unfolding rule in_range unlocked late changes
returns-then-slot-eq255 c t words long = moves_done _ _ _ _ long (search (rules, tests)) refl (λ d. search (rules, tests)) (λ d s. search (rules, tests))

pub returns-then-slot-ge8 : goal.returns-then-slot-ge8
unfolding rule in_range
returns-then-slot-ge8 c t words long = moves_range _ _ _ _ long (search (rules, tests)) refl

pub returns-then-from-slot : goal.returns-then-from-slot
unfolding rule in_range unlocked late
returns-then-from-slot c t words long = moves_late _ _ _ _ long (search (rules, tests)) refl (λ d. search (rules, tests)) refl

pub returns : goal.returns
unfolding rule in_range unlocked late changes
returns c t words long = moves_done _ _ _ _ long (search (rules, tests)) refl (λ d. search (rules, tests)) (λ d s. search (rules, tests))
