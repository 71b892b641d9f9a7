use Rattle.std.proofs.Common.{◌≡◌, length}
use Rattle.soundness.specs.Sound.{distinct}
use Rattle.soundness.proofs.objects.all_distinct.Given as goal

abbrev pub invariant-loop-w : goal.invariant-loop-w
invariant-loop-w l = distinct l.rest ≡ distinct l.words

abbrev pub decreases-loop-w : goal.decreases-loop-w
decreases-loop-w l = length l.rest
