use mathlib.Core.Path.{sym, ◌∙◌}
use native.Mathlib.Omega.{arith}
use Rattle.bounded.specs.Search.{next, stop, over}
use Rattle.clists.specs.Clist.{list_end}
use Rattle.clists.proofs.ends.list_end.Goals as goal

pub returns-then-zero_pair : goal.returns-then-zero_pair
unfolding list_end
returns-then-zero_pair c = stop c.loop-i.invariant (omega arith) (sym c.zero_pair.ensures ∙ c.if-zero_pair.true)

pub loop-i-preserved : goal.loop-i-preserved
loop-i-preserved c = next c.loop-i.invariant (omega arith) (sym c.zero_pair.ensures ∙ c.if-zero_pair.false)

pub returns-then-zero_pair-2 : goal.returns-then-zero_pair-2
unfolding list_end
returns-then-zero_pair-2 c = stop c.loop-i-2.invariant (omega arith) (sym c.zero_pair-in-loop-i-2.ensures ∙ c.if-zero_pair-2.true)

pub loop-i-2-preserved : goal.loop-i-2-preserved
loop-i-2-preserved c = next c.loop-i-2.invariant (omega arith) (sym c.zero_pair-in-loop-i-2.ensures ∙ c.if-zero_pair-2.false)

pub returns : goal.returns
unfolding list_end
returns c = over c.loop-i-2.invariant (omega arith)
