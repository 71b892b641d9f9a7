-- A number field, by document 01, "The call program": digits of a number below 2^64, with no needless zero in front.
use Rattle.std.specs.Prelude.{ℕ, ◌+◌, ◌-◌, ◌*◌, ◌^◌, Bool, ◌&&◌, not, cond, leb, ltb, eqb, Option, Some, None}
use mathlib.Core.List.{List, [], ◌∷◌, foldl}

-- what a field reads as
pub data Field : Type 0 where
  Empty : Field
  Number : ℕ → Field
  Bad : Field

-- the digits 0 to 9
abbrev pub is_digit : ℕ → Bool
is_digit b = leb 48 b && leb b 57

-- the number v goes on by the digit b: not after a lone zero, and not to 2^64
abbrev pub grown : ℕ → ℕ → Field
grown v b = cond (not (eqb v 0) && ltb (v * 10 + (b - 48)) (2 ^ 64)) (Number (v * 10 + (b - 48))) Bad

-- a field that goes on by the digit b
abbrev pub with_digit : Field → ℕ → Field
with_digit Empty b = Number (b - 48)
with_digit (Number v) b = grown v b
with_digit Bad b = Bad

-- a field after one byte more
abbrev pub after : Field → ℕ → Field
after f b = cond (is_digit b) (with_digit f b) Bad

-- the reading of a field, from its first byte to its last
unfoldable pub field_of : List ℕ → Field
field_of s = foldl after Empty s

-- a field, by the number that the code hands back: where it hands back none, the field is empty or bad
abbrev pub numbered : List ℕ → Option ℕ → Field
numbered s (Some v) = Number v
numbered [] None = Empty
numbered (b ∷ s) None = Bad
