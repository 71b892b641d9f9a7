use Rattle.std.proofs.Common.{drop-drop, add_assoc}
use Rattle.codec.specs.Number.{number, byte}
use Rattle.layout.specs.Layout.{capability, slots, frame}
use Rattle.layout.proofs.frames.FrameChecked.ok.Goals as goal

pub returns : goal.returns
unfolding number byte capability slots frame
returns c = rw c.ok.ensures (simp (drop-drop, add_assoc))
