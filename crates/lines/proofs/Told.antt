-- A field whose number is none.
use Prim.Native.Nat.{ℕ}
use mathlib.Core.Path.{◌≡◌, refl}
use mathlib.Core.Bool.{false}
use mathlib.Core.List.{List, [], ◌∷◌}
use Rattle.std.specs.Prelude.{None}
use Rattle.lines.specs.Number.{numbered}
use Rattle.lines.specs.Taking.{is_number}

-- it is no number
pub no_number : (s : List ℕ) → is_number (numbered s None) ≡ false
no_number [] = refl
no_number (b ∷ s) = refl
