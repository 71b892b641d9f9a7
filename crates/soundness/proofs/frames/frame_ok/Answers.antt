use Rattle.std.proofs.Common.{ne_eqb}
use borrow.Author.Tests.{eq-eqb}
use Rattle.soundness.specs.Sound.{frame_ok}
use Rattle.soundness.proofs.frames.frame_ok.Goals as goal

pub returns-then-not-unused : goal.returns-then-not-unused
unfolding frame_ok
returns-then-not-unused c =
    rw (eq-eqb _ _ c.well_formed.1.0.1.1.0.1.0.1, ← c.frame_bounds.ensures, c.if-frame_bounds.true, c.if-not-unused.true)

pub returns-then-f-eq0 : goal.returns-then-f-eq0
unfolding frame_ok
returns-then-f-eq0 c =
    rw (eq-eqb _ _ c.well_formed.1.0.1.1.0.1.0.1, ← c.frame_bounds.ensures, c.if-frame_bounds.true, c.if-not-unused.false, eq-eqb _ _ c.if-f-eq0.true)

pub returns-else-f-eq0 : goal.returns-else-f-eq0
unfolding frame_ok
returns-else-f-eq0 c =
    rw (eq-eqb _ _ c.well_formed.1.0.1.1.0.1.0.1, ← c.frame_bounds.ensures, c.if-frame_bounds.true, c.if-not-unused.false, ne_eqb _ _ c.if-f-eq0.false)

pub returns-else-frame_bounds : goal.returns-else-frame_bounds
unfolding frame_ok
returns-else-frame_bounds c =
    rw (eq-eqb _ _ c.well_formed.1.0.1.1.0.1.0.1, ← c.frame_bounds.ensures, c.if-frame_bounds.false)
