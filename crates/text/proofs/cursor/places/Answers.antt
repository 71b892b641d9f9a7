use Rattle.text.specs.Decimal.{counting_fits}
use Rattle.text.proofs.cursor.places.Goals as goal
use Rattle.std.proofs.Common.{arith}

pub overflow_mul-power : goal.overflow_mul-power
overflow_mul-power c = omega (arith, counting_fits c.loop-k.invariant (λ e. omega arith))
