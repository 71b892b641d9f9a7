-- The arguments as the code takes them, one field after another.
use Rattle.std.specs.Prelude.{ℕ, ◌≡◌, refl, Bool, true, false}
use Rattle.std.proofs.Common.{sym, ap}
use mathlib.Core.List.{List, [], ◌∷◌, ◌++◌, append_assoc}
use Rattle.std.proofs.Math.Option.{Option, none, some}
use Rattle.lines.specs.Number.{Field, Empty, Number, Bad}
use Rattle.lines.specs.Arguments.{in_front}

-- some numbers in front of those that follow
abbrev pub joined : List ℕ → Option (List ℕ) → Option (List ℕ)
joined vs none = none
joined vs (some ws) = some (vs ++ ws)

pub joined_none : (o : Option (List ℕ)) → o ≡ joined [] o
joined_none none = refl
joined_none (some ws) = refl

pub joined_more : (vs : List ℕ) (v : ℕ) (o : Option (List ℕ)) → joined vs (in_front (Number v) o) ≡ joined (vs ++ (v ∷ [])) o
joined_more vs v none = refl
joined_more vs v (some ws) = ap some (sym (append_assoc vs (v ∷ []) ws))

abbrev pub is_number : Field → Bool
is_number (Number v) = true
is_number Empty = false
is_number Bad = false

pub joined_bad : (vs : List ℕ) (f : Field) (o : Option (List ℕ)) → is_number f ≡ false → joined vs (in_front f o) ≡ none
joined_bad vs Empty o h = refl
joined_bad vs (Number v) o h = cc
joined_bad vs Bad o h = refl
