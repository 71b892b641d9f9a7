use Rattle.std.proofs.Common.{◌≡◌, length}
use Rattle.modes.proofs.Written.{written}
use Rattle.modes.proofs.text.Given as goal

abbrev pub invariant-loop-mode : goal.invariant-loop-mode
invariant-loop-mode l = record { so_far : l.lines ≡ written l.mode; long : length l.lines ≡ 512 }
