use Rattle.soundness.specs.Sound.{passwords_ok}
use Rattle.soundness.proofs.objects.passwords_ok.Goals as goal

pub returns-then-modes_ok : goal.returns-then-modes_ok
unfolding passwords_ok
returns-then-modes_ok c = rw (← c.modes_ok.ensures, c.if-modes_ok.true) c.passwords_placed.ensures

pub returns-else-modes_ok : goal.returns-else-modes_ok
unfolding passwords_ok
returns-else-modes_ok c = rw (← c.modes_ok.ensures, c.if-modes_ok.false)
