use Rattle.std.proofs.Common.{refl, rules}
use Rattle.codec.specs.Number.{byte}
use Rattle.layout.proofs.parts.U8Part.store.Goals as goal

pub returns : goal.returns
unfolding byte
returns c = (refl, search rules)
