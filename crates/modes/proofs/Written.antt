-- The lines as the loop writes them.
use Rattle.std.proofs.Common.{◌≡◌, ℕ, suc, ◌*◌, List, refl}
use Rattle.std.proofs.Math.ListN.{set, replicate}
use Rattle.modes.specs.Printed.{digit_of, rule_lines, printed}

-- the lines with the digits of the modes below `m`
abbrev pub written : ℕ → List ℕ
written ℕ.zero = replicate 512 10
written (suc m) = set (written m) (2 * m) (digit_of m)

-- with all digits they are the text: both are computed
pub computed : written 256 ≡ printed
unfolding printed rule_lines
computed = refl
