use Rattle.std.proofs.Common.{refl, sym, ap, not, ne_eqb, eq-eqb, lt-ltb}
use Rattle.calls.specs.Rules.{rule, unlocked, late, changes}
use Rattle.calls.specs.Laws.Based.{based_done}
use Rattle.calls.specs.Laws.Exits.{exits, none_granted, some_granted}
use Rattle.calls.proofs.Parts.{alters_length, alters_range, alters_lock}
use Rattle.calls.proofs.Based.{based_late}
use Rattle.register_call.proofs.Refused.{refused}
use Rattle.register_call.proofs.obj_cre_pdx.Goals as goal

pub returns-then-store-ne-STORE_WORDS : goal.returns-then-store-ne-STORE_WORDS
returns-then-store-ne-STORE_WORDS c u d below = alters_length _ u d _ _ _ c.if-store-ne-STORE_WORDS.true refl

pub returns-then-not-register_in_range : goal.returns-then-not-register_in_range
returns-then-not-register_in_range c u d below =
    alters_range _ u d _ _ _ (record { long = c.if-store-ne-STORE_WORDS.false; known = below }) (sym c.if-not-register_in_range.ensures.value) refl

pub returns-then-f : goal.returns-then-f
unfolding rule unlocked
returns-then-f c u d below =
    alters_lock _ u d _ _ _ (record { long = c.if-store-ne-STORE_WORDS.false; known = below }) (sym c.if-not-register_in_range.ensures.value)
    (ap not c.if-f.true) refl

pub returns-in_err-ok_or : goal.returns-in_err-ok_or
unfolding rule unlocked late
returns-in_err-ok_or c u d below =
    let n = none_granted _ c.ok_or.ensures.value c.in_err-ok_or.was in
    based_late _ u d _ _ _ (record { long = c.if-store-ne-STORE_WORDS.false; known = below }) refl
    (sym c.if-not-register_in_range.ensures.value) (ap not c.if-f.false) c.judge.ensures n.0 (λ v s. rw s.found)
    (exits c.from_residual.ensures.1 n.1)

pub returns-then-not-live : goal.returns-then-not-live
unfolding rule unlocked late
returns-then-not-live c u d below =
    based_late _ u d _ _ _ (record { long = c.if-store-ne-STORE_WORDS.false; known = below }) refl
    (sym c.if-not-register_in_range.ensures.value) (ap not c.if-f.false) c.judge.ensures
    (some_granted _ c.ok_or.ensures.value c.in_ok-ok_or.was)
    (λ v s. rw (s.found, s.live, ← c.capability.ensures, ← c.if-not-live.ensures)) refl

pub returns-then-not-entries_inside : goal.returns-then-not-entries_inside
returns-then-not-entries_inside c u d below =
    refused (record { long = c.if-store-ne-STORE_WORDS.false; known = below }) c.if-not-register_in_range.ensures.value c.if-f.false
    c.judge.ensures (some_granted _ c.ok_or.ensures.value c.in_ok-ok_or.was) (rw c.capability.ensures at c.if-not-live.ensures)
    c.object_based-o.ensures (rw (← c.if-not-entries_inside.ensures))

pub returns-then-has_password : goal.returns-then-has_password
returns-then-has_password c u d below =
    refused (record { long = c.if-store-ne-STORE_WORDS.false; known = below }) c.if-not-register_in_range.ensures.value c.if-f.false
    c.judge.ensures (some_granted _ c.ok_or.ensures.value c.in_ok-ok_or.was) (rw c.capability.ensures at c.if-not-live.ensures)
    c.object_based-o.ensures (rw (← c.if-not-entries_inside.ensures, ← c.if-has_password.ensures))

pub returns-then-o-ne0 : goal.returns-then-o-ne0
returns-then-o-ne0 c u d below =
    refused (record { long = c.if-store-ne-STORE_WORDS.false; known = below }) c.if-not-register_in_range.ensures.value c.if-f.false
    c.judge.ensures (some_granted _ c.ok_or.ensures.value c.in_ok-ok_or.was) (rw c.capability.ensures at c.if-not-live.ensures)
    c.object_based-o.ensures (rw (← c.if-not-entries_inside.ensures, ← c.if-has_password.ensures, ne_eqb _ _ c.if-o-ne0.true))

pub returns : goal.returns
unfolding rule unlocked late changes
returns c u d below =
    based_done _ u d _ _ _ (record { long = c.if-store-ne-STORE_WORDS.false; known = below }) refl
    (sym c.if-not-register_in_range.ensures.value) (ap not c.if-f.false) c.judge.ensures
    (some_granted _ c.ok_or.ensures.value c.in_ok-ok_or.was) _
    (lt-ltb _ _ (c.register_in_range.ensures.bounds c.if-not-register_in_range.false).0)
    (λ v s. rw (
      s.found,
      s.live,
      ← c.capability.ensures,
      ← c.if-not-live.ensures,
      ← c.object_based-o.ensures,
      ← c.if-not-entries_inside.ensures,
      ← c.if-has_password.ensures,
      eq-eqb _ _ c.if-o-ne0.false,
    ))
    (λ v s. rw (s.found, ← c.object_based-o.ensures, ← c.registration.ensures, ← c.with_registration-registered.ensures)) c.becomes.ensures
