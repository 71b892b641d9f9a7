use Rattle.std.proofs.Common.{arith, le-leb}
use Rattle.std.proofs.lemmas.Bool.Decides.{nat_tests}
use Rattle.soundness.specs.Sound.{frame_bounds}
use Rattle.soundness.proofs.frames.frame_bounds.Goals as goal

pub returns-then-f : goal.returns-then-f
unfolding frame_bounds
returns-then-f c = rw (le-leb _ _ c.if-f.true.0, le-leb _ _ c.if-f.true.1) c.slots_ok.ensures

pub returns-else-f : goal.returns-else-f
unfolding frame_bounds
returns-else-f c = grind (arith, nat_tests)
