use Rattle.calls.specs.Boot.{home_domain}
use Rattle.boot.proofs.home_domain.Goals as goal

pub returns : goal.returns
unfolding home_domain
returns c = cc
