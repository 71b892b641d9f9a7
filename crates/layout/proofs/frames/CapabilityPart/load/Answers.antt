use Rattle.std.proofs.Common.{drop-drop}
use Rattle.layout.specs.Layout.{capability}
use Rattle.layout.proofs.frames.CapabilityPart.load.Goals as goal

pub returns : goal.returns
unfolding capability
returns c = rw (c.load.ensures, c.load-2.ensures) (simp drop-drop)
