use Rattle.std.proofs.Common.{length, ◌≡◌}
use Rattle.updates.proofs.Past.{past}
use Rattle.updates.proofs.estates.with_estate.Goals as goal

pub returns-then-d-ge4 : goal.returns-then-d-ge4
returns-then-d-ge4 c = let w : length c.args.s.table.estates ≡ 4 = c.well_formed.0.1.1.0.1.1.0.1.0.1 in rw (past c.args.s.table.estates w c.if-d-ge4.true)
