-- What is looked up in the object table.
use Rattle.std.specs.Prelude.{ℕ, ◌+◌, Bool, not, cond, Option, Some, None, ◌&&◌, ◌||◌, leb, ltb, eqb}
use Rattle.bounded.specs.Search.{first}
use Rattle.rights.specs.Modes.{pdx}
use Rattle.state.specs.Places.{free_object, object_at, password_at, estate_of}
use Rattle.state.specs.Extent.{free}
use Rattle.state.specs.declared.Object.{Object}
use Rattle.state.specs.declared.Estate.{Estate}
use Rattle.state.specs.declared.Table.{Table}

-- the object stands, and the page is its base, the first of its run
abbrev pub has_base : ℕ → Object → Bool
has_base page o = not (free o) && eqb o.base page

-- a place below the bound is found; the bound itself, or more, stands for none
abbrev pub found : ℕ → ℕ → Option ℕ
found n k = cond (ltb k n) (Some k) None

-- the object of an estate that passes a test, a free one where there is none; and its place, 8 where there is none
abbrev pub object_where : (Object → Bool) → Estate → Object
object_where test e = first (λ k. test (object_at e k)) (object_at e) free_object 0 8

abbrev pub place_where : (Object → Bool) → Estate → ℕ
place_where test e = first (λ k. test (object_at e k)) (λ k. k) 8 0 8

-- the run of the object ends behind the page
abbrev pub ends_behind : ℕ → Object → Bool
ends_behind page o = ltb page (o.base + o.pages)

-- the object whose run has the page: the first that ends behind the page, where that one has it; in a sound estate no other could (T-06)
unfoldable pub covering : Estate → ℕ → Object
covering e page = cond (leb (object_where (ends_behind page) e).base page) (object_where (ends_behind page) e) free_object

-- the object with the base, and its place
unfoldable pub based : Estate → ℕ → Object
based e page = object_where (has_base page) e

unfoldable pub place_based : Estate → ℕ → ℕ
place_based e page = place_where (has_base page) e

-- the same in the whole table
unfoldable pub object_covering : Table → ℕ → Object
object_covering t page = covering (estate_of t page) page

unfoldable pub object_based : Table → ℕ → Object
object_based t page = based (estate_of t page) page

-- the place for a new object with the base: that of the first object with a higher base, or else the first free one
unfoldable pub place_above : Estate → ℕ → ℕ
place_above e base = place_where (λ o. free o || ltb base o.base) e

-- an estate whose last place is free has room for an object more: the objects stand in the first places (document 02, T-06)
unfoldable pub has_room : Estate → Bool
has_room e = free (object_at e 7)

-- the place of a word among the ordinary passwords, 4 where it is none of them
unfoldable pub place_of : Object → ℕ → ℕ
place_of o word = first (λ k. eqb (password_at o k).word word) (λ k. k) 4 0 4

-- the first free place for a password, one with the word 0, behind the last password; 4 where there is none
abbrev pub free_password_place : Object → ℕ
free_password_place o = place_of o 0

-- the mode that a password has as an ordinary one, 0 where it is none; the word 0 is no password
unfoldable pub ordinary_mode : Object → ℕ → ℕ
ordinary_mode o word = cond (eqb word 0) 0 (first (λ k. eqb (password_at o k).word word) (λ k. (password_at o k).mode) 0 0 4)

-- the mode that a password has for the object; that of a registration has the mode 16, P alone
unfoldable pub mode_of : Object → ℕ → ℕ
mode_of o word = cond (not (eqb word 0) && eqb o.registration.password word) pdx (ordinary_mode o word)

-- the object has the password, that of its registration included
unfoldable pub has_password : Object → ℕ → Bool
has_password o word = not (eqb word 0) && (eqb o.registration.password word || not (eqb (place_of o word) 4))
