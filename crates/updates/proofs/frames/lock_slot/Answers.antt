use Rattle.std.proofs.Common.{eq-eqb, ne_eqb}
use Rattle.state.specs.Update.{lock_slot}
use Rattle.updates.proofs.frames.lock_slot.Goals as goal

pub returns-then-slot-eq255 : goal.returns-then-slot-eq255
unfolding lock_slot
returns-then-slot-eq255 c = rw (eq-eqb _ _ c.if-slot-eq255.true)

pub returns-else-slot-eq255 : goal.returns-else-slot-eq255
unfolding lock_slot
returns-else-slot-eq255 c = rw (ne_eqb _ _ c.if-slot-eq255.false, c.max.ensures)
