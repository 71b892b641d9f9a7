-- A line split at its commas.
use Rattle.std.specs.Prelude.{ℕ, cond, List, [], ◌∷◌, eqb}

-- the first field, and the others in order
pub record Split : Type 0 where
  pub first : List ℕ
  pub others : List (List ℕ)

-- a comma ends an empty field; another byte belongs to the first field
abbrev pub field_ends : Split → Split
field_ends f = record { first = []; others = f.first ∷ f.others }

abbrev pub onto : ℕ → Split → Split
onto b f = record { first = b ∷ f.first; others = f.others }

unfoldable pub split : List ℕ → Split
split [] = record { first = []; others = [] }
split (b ∷ s) = cond (eqb b 44) (field_ends (split s)) (onto b (split s))
