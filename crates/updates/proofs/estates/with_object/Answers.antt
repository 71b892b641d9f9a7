use Rattle.std.proofs.Common.{length, ◌≡◌}
use Rattle.updates.proofs.Past.{past}
use Rattle.updates.proofs.estates.with_object.Goals as goal

pub returns-then-k-ge8 : goal.returns-then-k-ge8
returns-then-k-ge8 c = let w : length c.args.e.objects ≡ 8 = c.well_formed.0.1.1.0.1.0.1 in rw (past c.args.e.objects w c.if-k-ge8.true)
