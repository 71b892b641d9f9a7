use borrow.Author.Tests.{eq-eqb}
use Rattle.soundness.specs.Sound.{estate_ok}
use Rattle.soundness.proofs.objects.estate_ok.Goals as goal

pub returns-then-objects_ok : goal.returns-then-objects_ok
unfolding estate_ok
returns-then-objects_ok c = rw (eq-eqb _ _ c.well_formed.1.0.1.1.0.1.0.1, ← c.objects_ok.ensures, c.if-objects_ok.true) c.in_order.ensures

pub returns-else-objects_ok : goal.returns-else-objects_ok
unfolding estate_ok
returns-else-objects_ok c = rw (eq-eqb _ _ c.well_formed.1.0.1.1.0.1.0.1, ← c.objects_ok.ensures, c.if-objects_ok.false)
