use Rattle.calls.specs.Boot.{home_estate}
use Rattle.boot.proofs.home_estate.Goals as goal

pub returns : goal.returns
unfolding home_estate
returns c = cc
