-- A group, which the paper also calls a circle, and what is inside: document 01, "Two runs and a group".
use Rattle.std.specs.Prelude.{ℕ, ◌/◌, Bool, ◌&&◌, ltb}

-- any set of domains, the empty and the full one too
pub record Group : Type 0 where
  pub domains : ℕ → Bool

-- a member is one of the four domains that is in the set; any other number is an outsider's
unfoldable pub member : Group → ℕ → Bool
member G d = ltb d 4 && G.domains d

-- a page or an address is inside where the estate that it lies in is a member's; an object is where its base is
abbrev pub inside_page : Group → ℕ → Bool
inside_page G page = member G (page / 32)

abbrev pub inside_address : Group → ℕ → Bool
inside_address G a = inside_page G (a / 64)
