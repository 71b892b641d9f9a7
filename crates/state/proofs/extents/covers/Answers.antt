use borrow.Author.Rules.{rules}
use Rattle.state.specs.Extent.{covers}
use Rattle.state.proofs.extents.covers.Goals as goal

pub returns : goal.returns
unfolding covers
returns c = search rules
