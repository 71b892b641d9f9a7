use Rattle.layout.specs.Layout.{estates, table}
use Rattle.layout.proofs.objects.TablePart.load.Goals as goal

pub returns : goal.returns
unfolding estates table
returns c = rw c.load_array.ensures
