use Rattle.state.specs.Extent.{lies_in}
use Rattle.state.proofs.extents.lies_in.Goals as goal

pub returns : goal.returns
unfolding lies_in
returns c = cc
