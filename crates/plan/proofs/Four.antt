-- A test of the places 0 to 3, as `all` makes it.
use Rattle.std.specs.Prelude.{ℕ, ◌≡◌, refl, Bool, true, false, ◌&&◌}
use Rattle.std.specs.List.{list_all, range_with_len}
use Rattle.bounded.specs.Every.{below}

four_tests : (a b c d : Bool) → (a && (b && (c && (d && true)))) ≡ ((((true && a) && b) && c) && d)
four_tests false b c d = refl
four_tests true false c d = refl
four_tests true true false d = refl
four_tests true true true false = refl
four_tests true true true true = refl

pub four : (p : ℕ → Bool) → list_all p (range_with_len 0 4) ≡ below 4 p
unfolding below
four p = four_tests (p 0) (p 1) (p 2) (p 3)
