-- The refusals of wrong lengths by their numbers.
use Rattle.std.specs.Prelude.{ℕ, ◌≡◌, Result, Ok, Err}
use Rattle.std.proofs.Common.{arith}
use Rattle.slices.specs.declared.lengths.WrongLength.{WrongLength}
use Rattle.slices.specs.declared.lengths.WrongLength.TheVariants.{Store, Values}

-- 2 for the store's length, 13 for the values'
abbrev pub wrong_number : WrongLength → ℕ
wrong_number Store = 2
wrong_number Values = 13

-- 0 where both are right
abbrev pub length_number : Result (Unit {0}) WrongLength → ℕ
length_number (Ok u) = 0
length_number (Err wrong) = wrong_number wrong

pub wrong_some : (wrong : WrongLength) → wrong_number wrong ≡ 0 → ⊥
wrong_some Store e = absurd (omega arith)
wrong_some Values e = absurd (omega arith)
