use Rattle.std.proofs.Common.{drop-drop, add_assoc}
use Rattle.layout.specs.Layout.{slots, frame}
use Rattle.layout.proofs.frames.FramePart.load.Goals as goal

pub returns : goal.returns
unfolding slots frame
returns c = rw (c.load_array.ensures, c.load.ensures, c.load-2.ensures, c.load-3.ensures) (simp (drop-drop, add_assoc))
