use borrow.Author.Tests.{eq-eqb}
use Rattle.soundness.specs.Sound.{object_bounds, object_ok}
use Rattle.soundness.proofs.objects.object_ok.Goals as goal
use Rattle.soundness.proofs.objects.object_ok.Goals.{then-passwords_ok, else-passwords_ok}

pub returns-then-registration_ok : goal.returns-then-registration_ok
unfolding object_ok object_bounds
returns-then-registration_ok c =
    elim c.if-passwords_ok.branch [
      | then-passwords_ok w ↦
          rw (eq-eqb _ _ c.well_formed.1.0.1.1.1.1.1.0.1.0.1, eq-eqb _ _ c.well_formed.1.0.1.1.1.1.1.1.0.1.1.1.1.1.0.1.0.1)
          (rw (← c.passwords_ok.ensures, w.if-passwords_ok.true, ← w.registration_ok.ensures, ← w.value-is, c.if-registration_ok.true) c.place_ok.ensures)
      | else-passwords_ok w ↦ cc
    ]

pub returns-else-registration_ok : goal.returns-else-registration_ok
unfolding object_ok object_bounds
returns-else-registration_ok c =
    elim c.if-passwords_ok.branch [
      | then-passwords_ok w ↦
          rw (eq-eqb _ _ c.well_formed.1.0.1.1.1.1.1.0.1.0.1, eq-eqb _ _ c.well_formed.1.0.1.1.1.1.1.1.0.1.1.1.1.1.0.1.0.1)
          (rw (← c.passwords_ok.ensures, w.if-passwords_ok.true, ← w.registration_ok.ensures, ← w.value-is, c.if-registration_ok.false))
      | else-passwords_ok w ↦
          rw (eq-eqb _ _ c.well_formed.1.0.1.1.1.1.1.0.1.0.1, eq-eqb _ _ c.well_formed.1.0.1.1.1.1.1.1.0.1.1.1.1.1.0.1.0.1)
          (rw (← c.passwords_ok.ensures, w.if-passwords_ok.false) c.if-registration_ok.false)
    ]
