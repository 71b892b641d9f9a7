use Rattle.std.proofs.Common.{ap, ◌≡◌, ◌-◌, arith, rules, lt-ltb, le-ltb}
use Rattle.state.specs.Places.{no_capability}
use Rattle.state.specs.Update.{remove_slot}
use Rattle.updates.proofs.Shifts.{closed, no_gap}
use Rattle.updates.proofs.frames.remove_slot.Goals as goal

pub returns-then-f-at : goal.returns-then-f-at
unfolding remove_slot
returns-then-f-at c = rw (le-ltb _ _ c.if-f-at.true)

pub returns-then-at-lt8 : goal.returns-then-at-lt8
unfolding remove_slot
returns-then-at-lt8 c = let z : c.default.result ≡ no_capability = search rules in
    rw (lt-ltb _ _ c.if-f-at.false, ← c.from-at.ensures, z)
    (ap (λ l. record { slots = l; count = c.args.f.count - 1; locked = c.args.f.locked; whole = c.args.f.whole })
    (closed no_capability c.args.f.slots _ _ 7 no_capability (omega (arith, c.if-at-lt8.true)) (search rules) c.copy_within.ensures.len
    c.copy_within.ensures.by_index.0 c.copy_within.ensures.by_index.1))

pub returns-else-at-lt8 : goal.returns-else-at-lt8
unfolding remove_slot
returns-else-at-lt8 c = rw (lt-ltb _ _ c.if-f-at.false, ← c.from-at.ensures)
    (ap (λ l. record { slots = l; count = c.args.f.count - 1; locked = c.args.f.locked; whole = c.args.f.whole })
    (no_gap no_capability c.args.f.slots _ 7 no_capability c.if-at-lt8.false (search rules)))
