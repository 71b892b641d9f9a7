-- The listing by the objects that stand: document 02, T-06.
use Rattle.std.specs.Prelude.{ℕ, zero, suc, ◌≤◌, ◌≡◌, refl, Bool, true, false, cond, List, [], ◌∷◌, ◌++◌}
use Rattle.std.proofs.Common.{ap, sym, ◌∙◌, append_assoc, append-nil}
use Rattle.state.specs.Places.{object_at, estate_at}
use Rattle.state.specs.Extent.{free}
use Rattle.state.specs.declared.Object.{Object}
use Rattle.state.specs.declared.Estate.{Estate}
use Rattle.state.specs.declared.Table.{Table}
use Rattle.listing.specs.Lines.{object_line, place_line, texts, estate_lines, header, listing}

-- what stands in the first n places: a free one has nothing
unfoldable pub standing_in : (ℕ → Object) → ℕ → List Object
standing_in f zero = []
standing_in f (suc n) = standing_in f n ++ cond (free (f n)) [] (f n ∷ [])

-- THE STANDING OBJECTS of an estate, places 0 to 7, and of an object table, estates 0 to 3
unfoldable pub estate_standing : Estate → List Object
estate_standing e = standing_in (object_at e) 8

unfoldable pub standing : Table → List Object
standing t = estate_standing (estate_at t 0) ++ estate_standing (estate_at t 1) ++ estate_standing (estate_at t 2) ++ estate_standing (estate_at t 3)

-- the lines of objects, one behind the other
unfoldable pub lines_of : List Object → List ℕ
lines_of [] = []
lines_of (o ∷ os) = object_line o ++ lines_of os

-- EACH BASE IS ABOVE THE ONE BEFORE IT, and the first is `low` or more
abbrev pub Rising : ℕ → List Object → Type 0
Rising low [] = Unit {0}
Rising low (o ∷ os) = (low ≤ o.base) × Rising (suc o.base) os

lines_append : (xs ys : List Object) → lines_of (xs ++ ys) ≡ lines_of xs ++ lines_of ys
unfolding lines_of
lines_append [] ys = refl
lines_append (o ∷ xs) ys = ap (λ t. object_line o ++ t) (lines_append xs ys) ∙ sym (append_assoc (object_line o) (lines_of xs) (lines_of ys))

place_is : (o : Object) → place_line o ≡ lines_of (cond (free o) [] (o ∷ []))
unfolding lines_of
place_is o = go (free o)
  where
    go : (b : Bool) → cond b [] (object_line o) ≡ lines_of (cond b [] (o ∷ []))
    go true = refl
    go false = sym (append-nil (object_line o))

places_are : (f : ℕ → Object) (n : ℕ) → texts n (λ k. place_line (f k)) ≡ lines_of (standing_in f n)
unfolding texts standing_in lines_of
places_are f zero = refl
places_are f (suc n) = rw (places_are f n, place_is (f n)) (sym (lines_append (standing_in f n) (cond (free (f n)) [] (f n ∷ []))))

estate_is : (e : Estate) → estate_lines e ≡ lines_of (estate_standing e)
unfolding estate_lines estate_standing
estate_is e = places_are (object_at e) 8

-- WHAT IS PRINTED of an object table is the header, and a line for each standing object, by estate and then by place
pub listing_lines : (t : Table) → listing t ≡ header ++ lines_of (standing t)
unfolding listing standing
listing_lines t =
    let a = estate_standing (estate_at t 0) in
    let b = estate_standing (estate_at t 1) in
    let c = estate_standing (estate_at t 2) in
    let d = estate_standing (estate_at t 3) in
    rw (estate_is (estate_at t 0), estate_is (estate_at t 1), estate_is (estate_at t 2), estate_is (estate_at t 3))
    (rw (lines_append (a ++ b ++ c) d, lines_append (a ++ b) c, lines_append a b)
    (append_assoc (header ++ lines_of a ++ lines_of b) (lines_of c) (lines_of d)
    ∙ append_assoc (header ++ lines_of a) (lines_of b) (lines_of c ++ lines_of d)
    ∙ append_assoc header (lines_of a) (lines_of b ++ (lines_of c ++ lines_of d))
    ∙ ap (λ x. header ++ x)
    (sym (append_assoc (lines_of a ++ lines_of b) (lines_of c) (lines_of d) ∙ append_assoc (lines_of a) (lines_of b) (lines_of c ++ lines_of d)))))
