use Rattle.std.proofs.Common.{ap, arith, rules}
use Rattle.state.specs.Places.{no_object, free_object}
use Rattle.state.specs.Update.{remove_object}
use Rattle.updates.proofs.Shifts.{closed, no_gap}
use Rattle.updates.proofs.estates.remove_object.Goals as goal

pub returns-then-at-lt8 : goal.returns-then-at-lt8
unfolding remove_object
returns-then-at-lt8 c = rw c.free_object.ensures
    (ap (λ l. record { objects = l })
    (closed no_object c.args.e.objects _ _ 7 free_object (omega (arith, c.if-at-lt8.true)) (search rules) c.copy_within.ensures.len
    c.copy_within.ensures.by_index.0 c.copy_within.ensures.by_index.1))

pub returns-else-at-lt8 : goal.returns-else-at-lt8
unfolding remove_object
returns-else-at-lt8 c = ap (λ l. record { objects = l }) (no_gap no_object c.args.e.objects _ 7 free_object c.if-at-lt8.false (search rules))
