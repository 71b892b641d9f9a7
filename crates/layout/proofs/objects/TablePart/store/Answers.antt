use Rattle.layout.specs.Layout.{estates, table}
use Rattle.layout.proofs.objects.TablePart.store.Goals as goal

pub returns : goal.returns
unfolding estates table
returns c = c.store_array.ensures
