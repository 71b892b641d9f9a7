use Rattle.std.proofs.Common.{ltb-true, arith}
use Rattle.bounded.specs.Bools.{guarded}
use Rattle.bounded.specs.Every.{below_at}
use Rattle.register_call.proofs.kept_entry.Goals as goal

pub overflow_cast-result : goal.overflow_cast-result
overflow_cast-result c =
    let small = guarded _ _ _ (below_at 4 _ c.requires.1 c.args.k c.requires.0) c.if-e-k.false in
    rw c.in_order.ensures (omega (arith, ltb-true _ 8192 small))
