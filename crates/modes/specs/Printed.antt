-- What the program prints: document 02, T-04.
use Rattle.std.specs.Prelude.{ℕ, suc, ◌+◌, cond, ◌≡◌, refl, List, [], ◌∷◌}
use Rattle.rights.specs.Modes.{legal}
use Rattle.rights.specs.Table.{mode_table}

-- the digit of a mode: 1 where it is legal, else 0
abbrev pub digit_of : ℕ → ℕ
digit_of mode = cond (legal mode) 49 48

-- a line for each of the `n` modes from `m` on: its digit and a line feed
unfoldable pub rule_lines : ℕ → ℕ → List ℕ
rule_lines ℕ.zero m = []
rule_lines (suc n) m = digit_of m ∷ 10 ∷ rule_lines n (suc m)

-- modes 0 to 255
unfoldable pub printed : List ℕ
printed = rule_lines 256 0

-- the entries of a table, one a line
unfoldable pub entry_lines : List ℕ → List ℕ
entry_lines [] = []
entry_lines (e ∷ es) = (48 + e) ∷ 10 ∷ entry_lines es

-- What is printed is the table in use, which `mode_table` in `rights` promises to be `mode_table`: computed over all its entries.
pub printed_table : printed ≡ entry_lines mode_table
unfolding printed rule_lines entry_lines mode_table
printed_table = refl
