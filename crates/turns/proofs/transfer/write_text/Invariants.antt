use Rattle.std.proofs.Common.{◌≡◌, length}
use Rattle.turns.proofs.transfer.write_text.Given as goal

abbrev pub invariant-loop-rest : goal.invariant-loop-rest
invariant-loop-rest l = length l.text ≡ 0 → length l.rest ≡ 0

abbrev pub decreases-loop-rest : goal.decreases-loop-rest
decreases-loop-rest l = length l.rest
