use Rattle.judge.specs.Search.{searched}
use Rattle.judge.specs.Judged.Inside.{judged_is}
use Rattle.judge.proofs.judge.Goals as goal

pub returns-in-Address : goal.returns-in-Address
unfolding searched
returns-in-Address c = rw (judged_is, c.in-Address.is, ← c.object_covering.ensures) c.judge_object.ensures

pub returns-in-Base : goal.returns-in-Base
unfolding searched
returns-in-Base c = rw (judged_is, c.in-Base.is, ← c.object_based.ensures) c.judge_object-in-Base.ensures
