use Rattle.codec.specs.Number.{byte_at}
use Rattle.layout.proofs.parts.U8Part.load.Goals as goal

pub returns : goal.returns
returns c = simp byte_at
