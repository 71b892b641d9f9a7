use Prim.Native.Nat.{◌+◌, ◌*◌}
use Rattle.bounded.specs.Search.{Skipped}
use Rattle.judge.specs.Naming.{names}
use Rattle.judge.proofs.pairs.next_pair.Given as goal

abbrev pub invariant-loop-k : goal.invariant-loop-k
invariant-loop-k l = Skipped (names l.list l.base) l.from (l.from + 4 * l.k)

abbrev pub invariant-loop-j : goal.invariant-loop-j
invariant-loop-j l = Skipped (names l.list l.base) l.from (l.at + l.j)

abbrev pub invariant-loop-j-2 : goal.invariant-loop-j-2
invariant-loop-j-2 l = Skipped (names l.list l.base) l.from (l.at + l.j)
