use Prim.{tt}
use Rattle.codec.specs.Number.{truth, bit}
use Rattle.layout.proofs.parts.BoolPart.store.Goals as goal

pub returns : goal.returns
unfolding truth
returns c = (simp bit, tt)
