-- The objects of the object table as text: document 02, T-06.
use Rattle.std.specs.Prelude.{ℕ, zero, suc, cond, List, [], ◌∷◌, ◌++◌, eqb}
use Rattle.bounded.specs.Sum.{total}
use Rattle.state.specs.Places.{password_at, object_at, estate_at}
use Rattle.state.specs.Extent.{free}
use Rattle.state.specs.declared.Object.{Object}
use Rattle.state.specs.declared.Estate.{Estate}
use Rattle.state.specs.declared.Table.{Table}
use Rattle.text.specs.Decimal.{decimal}

-- 1 for a password, 0 for the word 0, which is none
abbrev pub one_for : ℕ → ℕ
one_for word = cond (eqb word 0) 0 1

-- the number of ordinary passwords; that of the registration is none of them
unfoldable pub password_count : Object → ℕ
password_count o = total 4 (λ k. one_for (password_at o k).word)

-- 1 for an object with a registration, else 0
abbrev pub registered : Object → ℕ
registered o = one_for o.registration.password

-- the line of an object: base, page count, account, number of ordinary passwords and registration, parted by commas
unfoldable pub object_line : Object → List ℕ
object_line o =
    decimal o.base ++ (44 ∷ decimal o.pages) ++ (44 ∷ decimal o.account) ++ (44 ∷ decimal (password_count o))
    ++ (44 ∷ decimal (registered o)) ++ (10 ∷ [])

-- of a place: a free one has none
abbrev pub place_line : Object → List ℕ
place_line o = cond (free o) [] (object_line o)

-- texts one behind the other: `f 0`, .., `f (n - 1)`
unfoldable pub texts : ℕ → (ℕ → List ℕ) → List ℕ
texts zero f = []
texts (suc n) f = texts n f ++ f n

-- places 0 to 7
unfoldable pub estate_lines : Estate → List ℕ
estate_lines e = texts 8 (λ k. place_line (object_at e k))

-- base,pages,account,passwords,pdx and the line feed
abbrev pub header : List ℕ
header =
    98 ∷ 97 ∷ 115 ∷ 101 ∷ 44 ∷ 112 ∷ 97 ∷ 103 ∷ 101 ∷ 115 ∷ 44 ∷ 97 ∷ 99 ∷ 99 ∷ 111 ∷ 117 ∷ 110 ∷ 116 ∷ 44 ∷ 112 ∷ 97 ∷ 115 ∷ 115 ∷ 119 ∷ 111 ∷ 114 ∷ 100 ∷ 115 ∷ 44 ∷ 112 ∷ 100 ∷ 120 ∷ 10 ∷ []

-- WHAT IS PRINTED of an object table: the header, and estates 0 to 3
unfoldable pub listing : Table → List ℕ
listing t = header ++ estate_lines (estate_at t 0) ++ estate_lines (estate_at t 1) ++ estate_lines (estate_at t 2) ++ estate_lines (estate_at t 3)
