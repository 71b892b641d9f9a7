use mathlib.Core.Path.{refl}
use Rattle.std.proofs.Common.{rules}
use borrow.Author.Tests.{tests}
use Rattle.calls.specs.Rules.{rule, in_range, unlocked, late, changes}
use Rattle.calls.specs.Laws.Exits.{exits, none_granted, some_granted}
use Rattle.calls.specs.Laws.Parts.{moves_done}
use Rattle.calls.proofs.Parts.{moves_length, moves_range, moves_lock, moves_late}
use Rattle.pdx_calls.proofs.pdx_call.Goals as goal

pub returns-then-store-ne-STORE_WORDS : goal.returns-then-store-ne-STORE_WORDS
returns-then-store-ne-STORE_WORDS c = moves_length _ _ _ _ c.if-store-ne-STORE_WORDS.true refl

pub returns-then-entry-ge8192 : goal.returns-then-entry-ge8192
unfolding rule in_range
returns-then-entry-ge8192 c = moves_range _ _ _ _ c.if-store-ne-STORE_WORDS.false (search (rules, tests)) refl

pub returns-then-choice-ge2 : goal.returns-then-choice-ge2
unfolding rule in_range
returns-then-choice-ge2 c = moves_range _ _ _ _ c.if-store-ne-STORE_WORDS.false (search (rules, tests)) refl

pub returns-then-f : goal.returns-then-f
unfolding rule in_range unlocked
returns-then-f c = moves_lock _ _ _ _ c.if-store-ne-STORE_WORDS.false (search (rules, tests)) (search (rules, tests)) refl

pub returns-in_err-ok_or : goal.returns-in_err-ok_or
unfolding rule in_range unlocked late
returns-in_err-ok_or c =
    let n = none_granted _ c.ok_or.ensures.value c.in_err-ok_or.was in
    moves_late _ _ _ _ c.if-store-ne-STORE_WORDS.false (search (rules, tests)) (search (rules, tests))
    (λ d. rw (← c.judge.ensures, n.0)) (exits c.from_residual.ensures.1 n.1)

pub returns-then-not-is_entry : goal.returns-then-not-is_entry
unfolding rule in_range unlocked late
returns-then-not-is_entry c =
    let g = some_granted _ c.ok_or.ensures.value c.in_ok-ok_or.was in
    moves_late _ _ _ _ c.if-store-ne-STORE_WORDS.false (search (rules, tests)) (search (rules, tests))
    (λ d. rw (← c.judge.ensures, g) (search (rules, tests))) refl

pub returns-then-not-has_room : goal.returns-then-not-has_room
unfolding rule in_range unlocked late
returns-then-not-has_room c =
    let g = some_granted _ c.ok_or.ensures.value c.in_ok-ok_or.was in
    moves_late _ _ _ _ c.if-store-ne-STORE_WORDS.false (search (rules, tests)) (search (rules, tests))
    (λ d. rw (← c.judge.ensures, g) (search (rules, tests))) refl

pub returns-then-m-ge4 : goal.returns-then-m-ge4
unfolding rule in_range unlocked late
returns-then-m-ge4 c =
    let g = some_granted _ c.ok_or.ensures.value c.in_ok-ok_or.was in
    moves_late _ _ _ _ c.if-store-ne-STORE_WORDS.false (search (rules, tests)) (search (rules, tests))
    (λ d. rw (← c.judge.ensures, g) (search (rules, tests))) refl

pub returns : goal.returns
unfolding rule in_range unlocked late changes
returns c =
    let g = some_granted _ c.ok_or.ensures.value c.in_ok-ok_or.was in
    moves_done _ _ _ _ c.if-store-ne-STORE_WORDS.false (search (rules, tests)) (search (rules, tests))
    (λ d. rw (← c.judge.ensures, g) (search (rules, tests))) (λ d s. rw (← c.judge.ensures, g) (search (rules, tests)))
