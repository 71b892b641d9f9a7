use Prim.Native.Nat.{ℕ, ◌-◌, ◌≤◌}
use Rattle.std.specs.Prelude.{Ok}
use mathlib.Core.List.{List}
use Rattle.state.specs.declared.Object.{Object}
use Rattle.judge.specs.Search.{pair_verdict}
use Rattle.judge.specs.Walk.{Walking}
use Rattle.judge.specs.Search.{Verdict}
use Rattle.judge.proofs.pairs.list_verdict.Given as goal

module _ (list : List ℕ) (at : ℕ) (o : Object) (wanted : ℕ) where
  -- what the walk knows at pair i
  abbrev AtPair : ℕ → ℕ → Verdict → Type 0
  AtPair n i found = Walking (pair_verdict list at o wanted) (pair_verdict list at o wanted) n i found

abbrev pub invariant-loop-i : goal.invariant-loop-i
invariant-loop-i l = AtPair l.list l.start l.o l.wanted.bits l.pairs l.from (Ok l.found) × (l.from ≤ l.pairs)

abbrev pub decreases-loop-i : goal.decreases-loop-i
decreases-loop-i l = l.pairs - l.from
