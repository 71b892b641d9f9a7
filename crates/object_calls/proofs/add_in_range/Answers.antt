use Rattle.calls.specs.Rules.{in_range}
use Rattle.object_calls.proofs.add_in_range.Goals as goal

pub returns : goal.returns
unfolding in_range
returns c = cc
