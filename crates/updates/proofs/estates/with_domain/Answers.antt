use Rattle.std.proofs.Common.{length, ◌≡◌}
use Rattle.updates.proofs.Past.{past}
use Rattle.updates.proofs.estates.with_domain.Goals as goal

pub returns-then-d-ge4 : goal.returns-then-d-ge4
returns-then-d-ge4 c = let w : length c.args.s.domains ≡ 4 = c.well_formed.0.1.1.1.0.1.0.1 in rw (past c.args.s.domains w c.if-d-ge4.true)
