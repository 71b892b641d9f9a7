-- The mode table: document 02, T-04. A constant of the code; here it is made by the rule, `legal`.
use Rattle.std.specs.Prelude.{ℕ, cond, List}
use Rattle.bounded.specs.Fill.{tabulate}
use Rattle.rights.specs.Modes.{legal}

-- the entry of a mode: 1 where it is legal, else 0
abbrev pub entry : ℕ → ℕ
entry mode = cond (legal mode) 1 0

-- the entries of modes 0 to 255
unfoldable pub mode_table : List ℕ
mode_table = tabulate 256 entry
