use Rattle.layout.specs.Layout.{objects, estate}
use Rattle.layout.proofs.objects.EstatePart.load.Goals as goal

pub returns : goal.returns
unfolding objects estate
returns c = rw c.load_array.ensures
