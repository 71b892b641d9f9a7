use Rattle.codec.proofs.Truth.{truth_at}
use Rattle.layout.proofs.parts.BoolPart.load.Goals as goal

pub returns : goal.returns
returns c = rw truth_at
