use Prim.Native.Nat.{◌≤◌}
use mathlib.Core.Path.{◌≡◌}
use mathlib.Core.Bool.{true}
use Rattle.std.specs.Prelude.{length}
use Rattle.lines.specs.Gathering.{Gathering}
use Rattle.lines.proofs.read_numbers.Given as goal

abbrev pub invariant-loop-field : goal.invariant-loop-field
invariant-loop-field l =
    Gathering (goal.iterator-loop-field).next_gives l.field-iterator l.t l.n l.initial.into l.into × (l.all ≡ true → l.n ≤ length l.initial.into)
