use Rattle.std.proofs.Common.{◌≡◌, length}
use Rattle.stream.specs.Feed.{Reached}
use Rattle.turns.proofs.run.Given as goal

abbrev pub invariant-loop : goal.invariant-loop
invariant-loop l = record {
  piece_room : length l.piece ≡ 65536;
  out_room : length l.out ≡ 65536;
  reached : Reached l.initial.store l.f l.store;
}
