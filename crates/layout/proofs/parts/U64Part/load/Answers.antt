use Rattle.layout.proofs.Bytes.{from_word}
use Rattle.layout.proofs.parts.U64Part.load.Goals as goal

pub returns : goal.returns
returns c = from_word c.args.bytes.now _ c.args.at _ c.copy_from_slice.ensures.after c.from_le_bytes.ensures
