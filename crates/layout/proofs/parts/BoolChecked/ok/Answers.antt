use Rattle.codec.proofs.Truth.{truth_ok}
use Rattle.layout.proofs.parts.BoolChecked.ok.Goals as goal

pub returns : goal.returns
returns c = rw truth_ok
