use mathlib.Core.Path.{refl}
use Rattle.std.specs.Prelude.{replicate}
use Rattle.calls.specs.Boot.{boot_numbers}
use Rattle.lines.specs.Arguments.{numbers_of}
use Rattle.lines.specs.Cut.{behind}
use Rattle.lines.specs.Reading.{plan_filled}
use Rattle.lines.specs.Room.{boot_held}
use Rattle.lines.proofs.read_boot.Goals as goal

pub returns : goal.returns
returns c =
    plan_filled c.args.domain c.args.plan.now
    (rw c.if-count-ne-BOOT_NUMBERS.false at
    (boot_held c.args.domain c.in_ok-count.count (numbers_of (behind c.args.t.now)) (replicate boot_numbers 0) _ c.in_ok-count.ensures refl))
