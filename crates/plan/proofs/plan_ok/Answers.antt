use Rattle.calls.specs.Boot.{plan_ok}
use Rattle.plan.proofs.plan_ok.Goals as goal

pub returns : goal.returns
unfolding plan_ok
returns c = cc
