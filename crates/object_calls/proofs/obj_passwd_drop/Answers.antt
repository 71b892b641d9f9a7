use mathlib.Core.Path.{refl}
use borrow.Author.Tests.{le-ltb, lt-ltb}
use Rattle.calls.specs.Rules.{rule, in_range, unlocked, late, changes}
use Rattle.calls.proofs.Parts.{alters_length, alters_range}
use Rattle.calls.specs.Laws.Based.{based_done}
use Rattle.calls.specs.Laws.Exits.{exits, none_granted, some_granted}
use Rattle.calls.proofs.Based.{based_late}
use Rattle.calls.specs.Laws.Told.{holds, fails}
use mathlib.Core.Path.{ap}
use mathlib.Core.Bool.{not}
use Rattle.object_calls.proofs.obj_passwd_drop.Goals as goal

pub returns-then-store-ne-STORE_WORDS : goal.returns-then-store-ne-STORE_WORDS
unfolding rule in_range unlocked late changes
returns-then-store-ne-STORE_WORDS c u d below = alters_length _ u d _ _ _ c.if-store-ne-STORE_WORDS.true refl

pub returns-then-base-ge128 : goal.returns-then-base-ge128
unfolding rule in_range unlocked late changes
returns-then-base-ge128 c u d below = alters_range _ u d _ _ _ (record { long = c.if-store-ne-STORE_WORDS.false; known = below }) (le-ltb _ _ c.if-base-ge128.true) refl

pub returns-in_err-ok_or : goal.returns-in_err-ok_or
unfolding rule in_range unlocked late changes
returns-in_err-ok_or c u d below =
    let n = none_granted _ c.ok_or.ensures.value c.in_err-ok_or.was in
    based_late _ u d _ _ _ (record { long = c.if-store-ne-STORE_WORDS.false; known = below }) refl (lt-ltb _ _ c.if-base-ge128.false) refl c.judge.ensures n.0
    (λ v s. rw s.found) (exits c.from_residual.ensures.1 n.1)

pub returns-then-not-has_password : goal.returns-then-not-has_password
unfolding rule in_range unlocked late changes
returns-then-not-has_password c u d below = based_late _ u d _ _ _ (record { long = c.if-store-ne-STORE_WORDS.false; known = below }) refl (lt-ltb _ _ c.if-base-ge128.false) refl c.judge.ensures (some_granted _ c.ok_or.ensures.value c.in_ok-ok_or.was)
    (λ v s. rw (s.found, ← c.object_based-o.ensures, fails c.has_password.ensures (ap not c.if-not-has_password.true))) refl

pub returns : goal.returns
unfolding rule in_range unlocked late changes
returns c u d below = let n = lt-ltb _ _ c.if-base-ge128.false in
    based_done _ u d _ _ _ (record { long = c.if-store-ne-STORE_WORDS.false; known = below }) refl n refl c.judge.ensures (some_granted _ c.ok_or.ensures.value c.in_ok-ok_or.was) _ n
    (λ v s. rw (s.found, ← c.object_based-o.ensures, holds c.has_password.ensures (ap not c.if-not-has_password.false)))
    (λ v s. rw (s.found, ← c.object_based-o.ensures, ← c.drop_password.ensures)) c.becomes.ensures
