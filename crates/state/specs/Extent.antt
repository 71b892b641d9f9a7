-- The run of pages of one object: document 01, "Ground and bounds", items 2 and 3.
use Rattle.std.specs.Prelude.{ℕ, ◌+◌, ◌*◌, Bool, ◌&&◌, ◌||◌, leb, ltb, eqb}
use Rattle.state.specs.declared.Object.{Object}

-- a place without pages holds no object
abbrev pub free : Object → Bool
free o = eqb o.pages 0

-- the object's run has the page
unfoldable pub covers : Object → ℕ → Bool
covers o page = leb o.base page && ltb page (o.base + o.pages)

-- item 2: the whole run lies in the 32 pages of domain d's estate
unfoldable pub lies_in : Object → ℕ → Bool
lies_in o d = leb (32 * d) o.base && leb (o.base + o.pages) (32 * d + 32)

-- item 3: two objects have no page in common; a free place has none
unfoldable pub apart : Object → Object → Bool
apart a b = free a || free b || leb (a.base + a.pages) b.base || leb (b.base + b.pages) a.base
