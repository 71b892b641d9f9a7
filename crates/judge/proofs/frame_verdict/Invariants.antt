use Prim.Native.Nat.{ℕ}
use Rattle.std.specs.Prelude.{Ok}
use mathlib.Core.List.{List}
use Rattle.state.specs.declared.Object.{Object}
use Rattle.state.specs.declared.Table.{Table}
use Rattle.state.specs.declared.Frame.{Frame}
use Rattle.judge.specs.Search.{granting, denying, slot_first}
use Rattle.judge.specs.Walk.{Walking}
use Rattle.judge.specs.Search.{Verdict}
use Rattle.judge.proofs.frame_verdict.Given as goal

module _ (t : Table) (words : List ℕ) (f : Frame) (o : Object) (wanted : ℕ) where
  -- what slot k denies, and what it grants
  abbrev denial : ℕ → Verdict
  denial = slot_first denying t words f o wanted

  abbrev grant : ℕ → Verdict
  grant = slot_first granting t words f o wanted

  -- what the walk knows at slot k
  abbrev AtSlot : ℕ → Verdict → Type 0
  AtSlot k found = Walking denial grant 8 k found

abbrev pub invariant-loop-k : goal.invariant-loop-k
invariant-loop-k l = AtSlot l.t l.store l.f l.o l.wanted.bits l.k (Ok l.found)
