use Rattle.state.specs.Extent.{apart}
use Rattle.state.proofs.extents.apart.Goals as goal

pub returns : goal.returns
unfolding apart
returns c = cc
