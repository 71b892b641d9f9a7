-- What std's searches of a list find, and the bounded search by number: one and the same.
use Rattle.std.specs.Prelude.{ℕ, ◌<◌, ◌≤◌, ◌≡◌, refl, Bool, Some, None, List, ◌⊎◌, length, get_or, ltb, eqb, not}
use borrow.Author.Tests.{eq-eqb, ne_eqb}
use Rattle.std.specs.List.{position, position_or_len}
use Rattle.std.specs.Option.{is_some, is_none, unwrap_or}
use Rattle.std.proofs.Common.{inl, inr, arith, rules, ltb-true, ltb-false}
use Rattle.std.proofs.lemmas.List.Sums.{position_or_len_is}
use Rattle.bounded.specs.Bools.{cond_ind}
use Rattle.bounded.specs.Search.{first}
use Rattle.bounded.specs.Place.{PlaceFound, PlaceMissing, search_cases}
use Rattle.state.specs.Lookup.{found}

module _ {A : Type 0} (p : A → Bool) (l : List A) (n : ℕ) (d : A) where
  -- the place of the first that passes
  pub place_len : length l ≡ n → position_or_len p l ≡ first (λ k. p (get_or l k d)) (λ k. k) n 0 n
  place_len h = go (search_cases test n)
    where
      test : ℕ → Bool
      test k = p (get_or l k d)

      go : PlaceFound test n ⊎ PlaceMissing test n → position_or_len p l ≡ first test (λ k. k) n 0 n
      go (inl f) = position_or_len_is p l _ d (omega (arith, f.within)) (λ k m. f.before k m) (λ m. f.passes)
      go (inr m) = position_or_len_is p l _ d (omega (arith, m.end)) (λ k o. m.none k (omega (arith, m.end))) (λ o. absurd (omega (arith, m.end)))

  pub position_found : length l ≡ n → position p l ≡ found n (first (λ k. p (get_or l k d)) (λ k. k) n 0 n)
  position_found h = rw (place_len h, h) refl

-- a place is found where it is below the bound, and none is found at the bound or past it
pub found_some : (n k j : ℕ) → found n k ≡ Some j → (k < n) × (k ≡ j)
found_some n k j =
    cond_ind (λ x. x ≡ Some j → (k < n) × (k ≡ j)) (ltb k n) (Some k) None (λ t e. (ltb-true k n t, search rules)) (λ t e. absurd (search rules))

pub found_none : (n k : ℕ) → found n k ≡ None → n ≤ k
found_none n k = cond_ind (λ x. x ≡ None → n ≤ k) (ltb k n) (Some k) None (λ t e. absurd (search rules)) (λ t e. ltb-false k n t)

-- whether a place is found
pub is_found : (n k : ℕ) → k ≤ n → is_some (found n k) ≡ not (eqb k n)
is_found n k h =
    cond_ind (λ x. is_some x ≡ not (eqb k n)) (ltb k n) (Some k) None
    (λ t. let m = ltb-true k n t in rw (ne_eqb k n (λ e. omega arith)) refl)
    (λ t. let m = ltb-false k n t in let e : k ≡ n = omega arith in rw (eq-eqb k n e) refl)

pub is_some_found : (n k : ℕ) → is_some (found n k) ≡ ltb k n
is_some_found n k = cond_ind (λ x. is_some x ≡ ltb k n) (ltb k n) (Some k) None (λ t. rw t) (λ t. rw t)

pub is_none_found : (n k : ℕ) → is_none (found n k) ≡ not (ltb k n)
is_none_found n k = cond_ind (λ x. is_none x ≡ not (ltb k n)) (ltb k n) (Some k) None (λ t. rw t) (λ t. rw t)

-- the place again, the bound where none is found
pub found_or : (n k : ℕ) → k ≤ n → unwrap_or (found n k) n ≡ k
found_or n k h =
    cond_ind (λ x. unwrap_or x n ≡ k) (ltb k n) (Some k) None (λ t. refl) (λ t. let m = ltb-false k n t in omega arith)
