use mathlib.Core.Path.{refl}
use Rattle.slices.specs.Slices.{cleared}
use Rattle.slices.proofs.values.refuse.Goals as goal

pub returns : goal.returns
unfolding cleared
returns c = (refl, rw c.no_fields.ensures at c.put_values.ensures)
