use Rattle.ending.specs.Behind.{reached_left}
use Rattle.ending.proofs.end_table.Goals as goal

pub returns : goal.returns
returns c = reached_left c.unwrap-end.result _ (rw c.unwrap-end.ensures at c.run.ensures.reached)
