use Rattle.ending.specs.Printed.{left_printed}
use Rattle.listing.specs.Lines.{listing}
use Rattle.objects.proofs.end_text.Goals as goal

pub returns : goal.returns
returns c = rw c.listing_text.ensures (left_printed listing _ c.end_table.ensures)
