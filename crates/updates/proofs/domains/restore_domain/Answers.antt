use Prim.Native.Nat.{◌<◌}
use native.Mathlib.Omega.{arith}
use borrow.Author.Tests.{lt-ltb, le-leb, lt-leb}
use borrow.Author.Rules.{rules}
use Rattle.state.specs.Update.{restore_domain}
use Rattle.updates.proofs.domains.restore_domain.Goals as goal

pub returns-then-n-eq0 : goal.returns-then-n-eq0
unfolding restore_domain
returns-then-n-eq0 c = rw c.if-n-eq0.true

pub returns-then-n-gt4 : goal.returns-then-n-gt4
unfolding restore_domain
returns-then-n-gt4 c = let h : 0 < c.args.m.depth = omega arith in rw (lt-ltb _ _ h, lt-leb _ _ c.if-n-gt4.true)

pub empty_frame-none-requires : goal.empty_frame-none-requires
unfolding restore_domain
empty_frame-none-requires c = search rules

pub returns : goal.returns
unfolding restore_domain
returns c = let h : 0 < c.args.m.depth = omega arith in
    rw (lt-ltb _ _ h, le-leb _ _ c.if-n-gt4.false, c.empty_frame-none.ensures)
