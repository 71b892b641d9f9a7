use Rattle.std.proofs.Common.{arith, le-leb}
use Rattle.std.proofs.lemmas.Bool.Decides.{nat_tests}
use borrow.Author.Tests.{eq-eqb}
use Rattle.soundness.specs.Sound.{domain_ok}
use Rattle.soundness.proofs.frames.domain_ok.Goals as goal

pub returns-then-m-le4 : goal.returns-then-m-le4
unfolding domain_ok
returns-then-m-le4 c = rw (eq-eqb _ _ c.well_formed.0.1.1.1.0.1.0.1, ← c.frame_ok.ensures, c.if-m-le4.true.0, le-leb _ _ c.if-m-le4.true.1) c.saved_ok.ensures

pub returns-else-m-le4 : goal.returns-else-m-le4
unfolding domain_ok
returns-else-m-le4 c = rw (eq-eqb _ _ c.well_formed.0.1.1.1.0.1.0.1, ← c.frame_ok.ensures) (grind (arith, nat_tests))
