-- What a lookup finds among the objects of an estate.
use Rattle.std.specs.Prelude.{ℕ, ◌<◌, ◌≤◌, ◌≡◌, refl, Bool, true, false, not, ◌||◌, ◌⊎◌, ltb}
use Rattle.std.proofs.Common.{sym, inl, inr, ⊎_elim, arith, le-leb, le-ltb, eqb-true}
use Rattle.std.proofs.lemmas.Bool.{not-true}
use Rattle.bounded.specs.Bools.{and_left, and_right, or_left, same_or_not}
use Rattle.bounded.specs.Place.{PlaceFound, PlaceMissing, search_cases, found_below, missing_end, found_some, search_value, search_none}
use Rattle.bounded.specs.Search.{first}
use Rattle.state.specs.Places.{no_object, no_estate, free_object, object_at, estate_of}
use Rattle.state.specs.Extent.{free, covers, apart}
use Rattle.state.specs.Lookup.{has_base, ends_behind, object_where, place_where, covering, based, object_based, place_above, has_room}
use Rattle.state.specs.Laws.Extent.{not_zero, covers_parts, parts_covers, apart_covers}
use Rattle.state.specs.declared.Object.{Object}
use Rattle.state.specs.declared.Estate.{Estate}
use Rattle.state.specs.declared.Table.{Table}

-- an object of the estate that passes the test, with its place
pub record Stands (test : Object → Bool) (e : Estate) : Type 0 where
  pub within : place_where test e < 8
  pub there : object_at e (place_where test e) ≡ object_where test e
  pub passes : test (object_where test e) ≡ true
  pub before : (j : ℕ) → j < place_where test e → test (object_at e j) ≡ false

module _ (test : Object → Bool) (e : Estate) where
  abbrev at : ℕ → Bool
  at k = test (object_at e k)

  -- a place below 8 is that of the object found, which passes the test
  pub place_stands : place_where test e < 8 → Stands test e
  place_stands h =
      let f = found_below at 8 h in
      let w = search_value at 8 (object_at e) free_object h in
      record { within = h; there = sym w; passes = rw w f.passes; before = f.before }

  -- no object passes where the place is 8
  pub none_stands : place_where test e ≡ 8 → (k : ℕ) → k < 8 → test (object_at e k) ≡ false
  none_stands h = (missing_end at 8 h).none

  -- and the object found is a free one
  pub none_found : place_where test e ≡ 8 → object_where test e ≡ free_object
  none_found h = search_none at 8 (object_at e) free_object h

  -- a place is at most 8
  pub place_bound : place_where test e ≤ 8
  place_bound = ⊎_elim (λ f. omega arith) (λ m. omega arith) (search_cases at 8)

  -- an object found with pages is one of the estate's
  pub pages_stands : 0 < (object_where test e).pages → Stands test e
  pages_stands p = go (search_cases at 8)
    where
      go : PlaceFound at 8 ⊎ PlaceMissing at 8 → Stands test e
      go (inl f) = place_stands f.within
      go (inr m) = let q : 0 < free_object.pages = rw (none_found m.end) at p in absurd (omega arith)

  -- where some object passes, one is found
  pub some_stands : (k : ℕ) → k < 8 → test (object_at e k) ≡ true → Stands test e
  some_stands k l h = place_stands (found_some at 8 k l h).0.within

-- a test that no free object passes
abbrev pub Standing : (Object → Bool) → Type 0
Standing test = (o : Object) → test o ≡ true → 0 < o.pages

-- a test that no two objects pass which are apart
abbrev pub Single : (Object → Bool) → Type 0
Single test = (a b : Object) → test a ≡ true → test b ≡ true → apart a b ≡ true → ⊥

-- an object that has a page has pages
pub covers_standing : (page : ℕ) → Standing (λ o. covers o page)
covers_standing page o h = omega (arith, covers_parts o page h)

-- one object alone has a page
pub covers_single : (page : ℕ) → Single (λ o. covers o page)
covers_single page a b p q h = apart_covers a b page h p q

-- an object found by its base has pages
pub base_standing : (page : ℕ) → Standing (has_base page)
base_standing page o h = not_zero o.pages (not-true (free o) (and_left _ _ h))

-- its base is that page
pub base_same : (page : ℕ) (o : Object) → has_base page o ≡ true → o.base ≡ page
base_same page o h = eqb-true o.base page (and_right (not (free o)) _ h)

-- it has the page that is its base
pub base_covers : (page : ℕ) (o : Object) → has_base page o ≡ true → covers o page ≡ true
base_covers page o h =
    let p = base_standing page o h in
    let e = base_same page o h in
    parts_covers o page (omega arith) (omega arith)

-- one object alone has a base
pub base_single : (page : ℕ) → Single (has_base page)
base_single page a b p q = covers_single page a b (base_covers page a p) (base_covers page b q)

-- a lookup finds an object of the estate, or answers a free one
pub found_or_free : (test : Object → Bool) (e : Estate) → Stands test e ⊎ (object_where test e ≡ free_object)
found_or_free test e =
    ⊎_elim (λ z. inr (none_found test e z)) (λ n. inl (place_stands test e (omega (arith, place_bound test e)))) (same_or_not (place_where test e) 8)

-- where a test that no free object passes finds no pages, the answer is a free object
pub none_answered : (test : Object → Bool) → Standing test → (e : Estate) → (object_where test e).pages ≡ 0 → object_where test e ≡ free_object
none_answered test pages e z = ⊎_elim (λ f. absurd (omega (arith, pages _ f.passes))) (λ q. q) (found_or_free test e)

-- where there is room, the place for a new object is one of the eight
pub room_place : (e : Estate) (base : ℕ) → has_room e ≡ true → place_above e base < 8
unfolding has_room place_above
room_place e base r = (some_stands (λ o. free o || ltb base o.base) e 7 (omega arith) (or_left (free (object_at e 7)) _ r)).within

-- an object found by its base has the base
pub based_base : (t : Table) (base : ℕ) → 0 < (object_based t base).pages → (object_based t base).base ≡ base
unfolding object_based based
based_base t base p = base_same base (object_based t base) (pages_stands (has_base base) (estate_of t base) p).passes

-- nothing is found in no estate
pub where_none : (test : Object → Bool) → test no_object ≡ false → object_where test no_estate ≡ free_object
unfolding first
where_none test h = rw h

pub based_none : (page : ℕ) → based no_estate page ≡ free_object
unfolding based
based_none page = where_none (has_base page) refl

pub covering_none : (page : ℕ) → covering no_estate page ≡ free_object
unfolding covering
covering_none page = rw (where_none (ends_behind page) (le-ltb page 0 (omega arith)), le-leb 0 page (omega arith))
