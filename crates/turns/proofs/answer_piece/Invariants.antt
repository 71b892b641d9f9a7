use Rattle.std.proofs.Common.{◌≡◌, length}
use Rattle.turns.proofs.Partway.{Partway}
use Rattle.turns.proofs.answer_piece.Given as goal

abbrev pub invariant-loop-rest : goal.invariant-loop-rest
invariant-loop-rest l = record {
  room : length l.out ≡ 65536;
  partway : Partway l.initial.g l.initial.store l.piece l.rest l.g l.store;
}

abbrev pub decreases-loop-rest : goal.decreases-loop-rest
decreases-loop-rest l = length l.rest
