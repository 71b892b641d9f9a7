use Prim.Native.Nat.{◌+◌, ◌*◌, ◌-◌}
use mathlib.Core.Path.{◌≡◌}
use native.Mathlib.Omega.{arith}
use borrow.Author.Tests.{le-leb, lt-leb}
use Rattle.clists.proofs.run_of.Goals as goal

pub returns-then-store-end : goal.returns-then-store-end
returns-then-store-end c = rw (lt-leb _ _ c.if-store-end.true)

pub returns : goal.returns
returns c = let h : 64 * (c.args.base + c.args.pages) - 64 * c.args.base ≡ 64 * c.args.pages = omega arith in
    rw (le-leb _ _ c.if-store-end.false, h)
