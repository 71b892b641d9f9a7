-- The arguments of a line: fields that are all numbers.
use Rattle.std.specs.Prelude.{ℕ, List, [], ◌∷◌}
use Rattle.std.proofs.Math.Option.{Option, none, some}
use Rattle.lines.specs.Number.{Field, Empty, Number, Bad, field_of}

-- a field in front of the numbers of those behind it
abbrev pub in_front : Field → Option (List ℕ) → Option (List ℕ)
in_front (Number v) (some vs) = some (v ∷ vs)
in_front (Number v) none = none
in_front Empty vs = none
in_front Bad vs = none

-- the numbers of the fields, where each field is a number
unfoldable pub numbers_of : List (List ℕ) → Option (List ℕ)
numbers_of [] = some []
numbers_of (f ∷ fs) = in_front (field_of f) (numbers_of fs)
