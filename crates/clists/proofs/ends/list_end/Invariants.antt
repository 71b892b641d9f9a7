use Prim.Native.Nat.{ℕ, ◌*◌}
use mathlib.Core.List.{List}
use Rattle.bounded.specs.Search.{Searching}
use Rattle.clists.specs.Clist.{zero_pair}
use Rattle.clists.proofs.ends.list_end.Given as goal

-- the end is looked for from pair i on
abbrev From : List ℕ → ℕ → ℕ → Type 0
From run pairs i = Searching (zero_pair run) (λ k. k) pairs pairs i

abbrev pub invariant-loop-k : goal.invariant-loop-k
invariant-loop-k l = From l.run l.pairs (8 * l.k)

abbrev pub invariant-loop-i : goal.invariant-loop-i
invariant-loop-i l = From l.run l.pairs l.i

abbrev pub invariant-loop-i-2 : goal.invariant-loop-i-2
invariant-loop-i-2 l = From l.run l.pairs l.i
