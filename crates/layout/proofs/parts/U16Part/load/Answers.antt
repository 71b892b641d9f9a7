use Rattle.std.proofs.Common.{arith}
use Rattle.codec.specs.Number.{half_sum}
use Rattle.layout.proofs.parts.U16Part.load.Goals as goal

pub returns : goal.returns
returns c = rw half_sum (omega (arith, c.from_le_bytes.ensures))
