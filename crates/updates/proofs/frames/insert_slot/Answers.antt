use Rattle.std.proofs.Common.{ap, ◌+◌, arith, rules, lt-ltb, le-ltb}
use Rattle.state.specs.Places.{no_capability}
use Rattle.state.specs.Update.{insert_slot}
use Rattle.updates.proofs.Shifts.{filled, not_put}
use Rattle.updates.proofs.frames.insert_slot.Goals as goal

pub returns-then-f-ge8 : goal.returns-then-f-ge8
unfolding insert_slot
returns-then-f-ge8 c = rw (le-ltb _ _ c.if-f-ge8.true)

pub returns-then-at-lt8 : goal.returns-then-at-lt8
unfolding insert_slot
returns-then-at-lt8 c = rw (lt-ltb _ _ c.if-f-ge8.false, ← c.from-at.ensures)
    (ap (λ l. record { slots = l; count = c.args.f.count + 1; locked = c.args.f.locked; whole = c.args.f.whole })
    (filled no_capability c.args.f.slots _ _ 7 c.args.c (omega (arith, c.if-at-lt8.true)) (search rules) c.copy_within.ensures.len
    c.copy_within.ensures.by_index.0 c.copy_within.ensures.by_index.1))

pub returns-else-at-lt8 : goal.returns-else-at-lt8
unfolding insert_slot
returns-else-at-lt8 c = rw (lt-ltb _ _ c.if-f-ge8.false, ← c.from-at.ensures)
    (ap (λ l. record { slots = l; count = c.args.f.count + 1; locked = c.args.f.locked; whole = c.args.f.whole })
    (not_put no_capability c.args.f.slots _ 7 c.args.c c.if-at-lt8.false (search rules)))
