use mathlib.Core.Path.{◌≡◌, refl, ap, ◌∙◌, sym}
use mathlib.Core.Bool.{not}
use native.Mathlib.Omega.{arith}
use borrow.Author.Tests.{le-ltb, lt-ltb}
use Rattle.std.specs.Prelude.{ℕ, Bool, Option, ltb, is_some}
use Rattle.state.specs.Lookup.{found, free_password_place}
use Rattle.state.specs.Laws.Found.{is_some_found}
use Rattle.calls.specs.declared.Refusal.TheVariants.{Full}
use Rattle.calls.specs.Rules.{rule, unlocked, late, changes}
use Rattle.calls.proofs.Parts.{alters_length, alters_range, alters_lock}
use Rattle.calls.specs.Laws.Based.{based_done}
use Rattle.calls.specs.Laws.Exits.{exits, none_granted, some_granted}
use Rattle.calls.proofs.Based.{based_late}
use Rattle.calls.specs.Laws.Told.{holds, fails}
use Rattle.object_calls.proofs.Ranges.{add_range}
use Rattle.object_calls.proofs.obj_passwd_add.Goals as goal

-- whether a place is found, by its number
some_place : (k : ℕ) {place : Option ℕ} {none b : Bool} → place ≡ found 4 k → is_some place ≡ not none → none ≡ b → ltb k 4 ≡ not b
some_place k p n h = sym (is_some_found 4 k) ∙ ap is_some (sym p) ∙ n ∙ ap not h

pub returns-then-store-ne-STORE_WORDS : goal.returns-then-store-ne-STORE_WORDS
unfolding rule unlocked late changes
returns-then-store-ne-STORE_WORDS c u d below = alters_length _ u d _ _ _ c.if-store-ne-STORE_WORDS.true refl

pub returns-then-not-add_in_range : goal.returns-then-not-add_in_range
unfolding rule unlocked late changes
returns-then-not-add_in_range c u d below = alters_range _ u d _ _ _ (record { long = c.if-store-ne-STORE_WORDS.false; known = below }) (fails c.add_in_range.ensures (ap not c.if-not-add_in_range.true)) refl

pub returns-then-f : goal.returns-then-f
unfolding rule unlocked late changes
returns-then-f c u d below = alters_lock _ u d _ _ _ (record { long = c.if-store-ne-STORE_WORDS.false; known = below }) (holds c.add_in_range.ensures (ap not c.if-not-add_in_range.false)) (ap not c.if-f.true) refl

pub returns-in_err-ok_or : goal.returns-in_err-ok_or
unfolding rule unlocked late changes
returns-in_err-ok_or c u d below =
    let n = none_granted _ c.ok_or.ensures.value c.in_err-ok_or.was in
    based_late _ u d _ _ _ (record { long = c.if-store-ne-STORE_WORDS.false; known = below }) refl (sym c.add_in_range.ensures ∙ c.if-not-add_in_range.false) (ap not c.if-f.false) c.judge.ensures n.0
    (λ v s. rw s.found) (exits c.from_residual.ensures.1 n.1)

pub returns-then-has_password : goal.returns-then-has_password
unfolding rule unlocked late changes
returns-then-has_password c u d below =
    based_late _ u d _ _ _ (record { long = c.if-store-ne-STORE_WORDS.false; known = below }) refl (sym c.add_in_range.ensures ∙ c.if-not-add_in_range.false) (ap not c.if-f.false) c.judge.ensures (some_granted _ c.ok_or.ensures.value c.in_ok-ok_or.was)
    (λ v s. rw (s.found, ← c.object_based-o.ensures, sym c.has_password.ensures ∙ c.if-has_password.true)) refl

pub returns-then-is_none : goal.returns-then-is_none
unfolding rule unlocked late changes
returns-then-is_none c u d below =
    based_late _ u d _ _ _ (record { long = c.if-store-ne-STORE_WORDS.false; known = below }) refl (sym c.add_in_range.ensures ∙ c.if-not-add_in_range.false) (ap not c.if-f.false) c.judge.ensures (some_granted _ c.ok_or.ensures.value c.in_ok-ok_or.was)
    {why = Full} (λ v s. rw (
      s.found,
      ← c.object_based-o.ensures,
      sym c.has_password.ensures ∙ c.if-has_password.false,
      some_place (free_password_place c.object_based-o.result) c.free_password_place.ensures c.is_none.ensures c.if-is_none.true,
    ))
    refl

pub overflow_cast-mode : goal.overflow_cast-mode
unfolding rule unlocked late changes
overflow_cast-mode c =
    omega (arith, (add_range _ _ _ (sym c.add_in_range.ensures ∙ c.if-not-add_in_range.false)).1)

pub returns : goal.returns
unfolding rule unlocked late changes
returns c u d below =
    based_done _ u d _ _ _ (record { long = c.if-store-ne-STORE_WORDS.false; known = below }) refl (sym c.add_in_range.ensures ∙ c.if-not-add_in_range.false) (ap not c.if-f.false) c.judge.ensures (some_granted _ c.ok_or.ensures.value c.in_ok-ok_or.was) _ (lt-ltb _ _ (add_range _ _ _ (sym c.add_in_range.ensures ∙ c.if-not-add_in_range.false)).0)
    (λ v s. rw (
      s.found,
      ← c.object_based-o.ensures,
      sym c.has_password.ensures ∙ c.if-has_password.false,
      some_place (free_password_place c.object_based-o.result) c.free_password_place.ensures c.is_none.ensures c.if-is_none.false,
    ))
    (λ v s. rw (s.found, ← c.object_based-o.ensures, ← c.add_password.ensures)) c.becomes.ensures
