use Rattle.std.proofs.Common.{arith}
use Rattle.text.specs.Grown.{grown_then}
use Rattle.text.proofs.cursor.Cursor.put_field.Goals as goal

pub returns : goal.returns
returns c = (grown_then c.put_byte.ensures c.put_number.ensures.0, omega (arith, c.put_byte.ensures.put.size, c.put_number.ensures.1))
