use Prim.Native.Nat.{ℕ, ◌<◌}
use mathlib.Core.Path.{◌≡◌}
use mathlib.Core.Bool.{Bool, true, false, ◌||◌, true≢false}
use native.Mathlib.Omega.{arith}
use lib.Dec.{eqb}
use borrow.Author.Tests.{eqb-false}
use Rattle.std.specs.Prelude.{Option, None, Ok, Err}
use Rattle.std.specs.Result.{result_unwrap_or}
use Rattle.state.specs.Extent.{free}
use Rattle.judge.specs.Search.{Verdict, judgement_of}
use Rattle.judge.proofs.judge_object.Goals as goal

-- behind the first test some right is wanted
some_wanted : (b : Bool) (wanted : ℕ) → (b || eqb wanted 0) ≡ false → 0 < wanted
some_wanted true wanted h = absurd (true≢false h)
some_wanted false wanted h = omega (arith, eqb-false wanted 0 h)

-- only a grant is a judgement
only_granted : (v : Verdict) {j : Option ℕ} → j ≡ result_unwrap_or v None → j ≡ judgement_of v
only_granted (Ok found) h = h
only_granted (Err d) h = h

pub returns-then-o-wanted : goal.returns-then-o-wanted
returns-then-o-wanted c = rw c.if-o-wanted.true

pub frame_verdict-requires : goal.frame_verdict-requires
frame_verdict-requires c = some_wanted (free c.args.o) c.args.wanted.bits c.if-o-wanted.false

pub returns : goal.returns
returns c = rw (c.if-o-wanted.false, ← c.frame_verdict.ensures) (only_granted c.frame_verdict.result c.unwrap_or.ensures)
