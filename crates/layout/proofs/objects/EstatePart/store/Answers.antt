use Rattle.layout.specs.Layout.{objects, estate}
use Rattle.layout.proofs.objects.EstatePart.store.Goals as goal

pub returns : goal.returns
unfolding objects estate
returns c = c.store_array.ensures
