use Rattle.calls.specs.Step.{admitted}
use Rattle.calls.proofs.admits.Goals as goal

pub returns : goal.returns
unfolding admitted
returns c = cc
