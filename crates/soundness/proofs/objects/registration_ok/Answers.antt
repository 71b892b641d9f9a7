use Rattle.soundness.specs.Sound.{registration_ok}
use Rattle.soundness.proofs.objects.registration_ok.Goals as goal

pub returns-then-entries_ok : goal.returns-then-entries_ok
unfolding registration_ok
returns-then-entries_ok c = rw (← c.entries_ok.ensures, c.if-entries_ok.true) c.list_ok.ensures

pub returns-else-entries_ok : goal.returns-else-entries_ok
unfolding registration_ok
returns-else-entries_ok c = rw (← c.entries_ok.ensures, c.if-entries_ok.false)
