-- A test of all places below a bound.
use Rattle.std.specs.Prelude.{ℕ, suc, ◌<◌, ◌≡◌, refl, Bool, true, ◌&&◌, List, [], ◌∷◌, length, get_or, set}
use Rattle.std.proofs.Common.{sym, ap, ◌∙◌, subst, ⊎_elim, eq-or-lt_of_le, le_of_suc-le-suc, arith, get_or-set_same, get_or-set_other}
use Rattle.std.proofs.Math.Bool.{and-true, and_assoc}
use Rattle.std.specs.List.{list_all}
use Rattle.bounded.specs.Bools.{and_left, and_right, and_both, same_or_not}

-- `p` holds at each place below `n`
unfoldable pub below : ℕ → (ℕ → Bool) → Bool
below ℕ.zero p = true
below (suc n) p = below n p && p n

pub below_at : (n : ℕ) (p : ℕ → Bool) → below n p ≡ true → (i : ℕ) → i < n → p i ≡ true
unfolding below
below_at ℕ.zero p h i l = absurd (omega arith)
below_at (suc n) p h i l =
    ⊎_elim (λ e. rw e (and_right (below n p) (p n) h)) (λ m. below_at n p (and_left (below n p) (p n) h) i m)
    (eq-or-lt_of_le (le_of_suc-le-suc l))

pub below_all : (n : ℕ) (p : ℕ → Bool) → ((i : ℕ) → i < n → p i ≡ true) → below n p ≡ true
unfolding below
below_all ℕ.zero p h = refl
below_all (suc n) p h = and_both (below_all n p (λ i l. h i (omega arith))) (h n (omega arith))

-- two tests that agree at each place agree
pub below_same : (n : ℕ) (p q : ℕ → Bool) → ((i : ℕ) → i < n → p i ≡ q i) → below n p ≡ below n q
unfolding below
below_same ℕ.zero p q h = refl
below_same (suc n) p q h = rw (below_same n p q (λ i l. h i (omega arith)), h n (omega arith))

-- a test of all places begins with the first
pub below_front : (n : ℕ) (p : ℕ → Bool) → below (suc n) p ≡ (p 0 && below n (λ k. p (suc k)))
unfolding below
below_front ℕ.zero p = sym (and-true (p 0))
below_front (suc n) p = ap (λ b. b && p (suc n)) (below_front n p) ∙ and_assoc (p 0) (below n (λ k. p (suc k))) (p (suc n))

-- each element of a list passes a test, and each of n
each : {A : Type 0} (d : A) (p : A → Bool) (xs : List A) → list_all p xs ≡ below (length xs) (λ k. p (get_or xs k d))
unfolding below
each d p [] = refl
each d p (x ∷ xs) = ap (λ b. p x && b) (each d p xs) ∙ sym (below_front (length xs) (λ k. p (get_or (x ∷ xs) k d)))

pub all_places : {A : Type 0} (d : A) (p : A → Bool) (xs : List A) (n : ℕ) → length xs ≡ n → list_all p xs ≡ below n (λ k. p (get_or xs k d))
all_places d p xs n h = rw (← h) (each d p xs)

-- what holds at each place of a list, and of a new value, holds at each place once the value is put in
pub set_each : {A : Type 0} (P : ℕ → A → Type 0) (l : List A) (i : ℕ) (v d : A) → i < length l → P i v
    → (k : ℕ) → ((k ≡ i → ⊥) → P k (get_or l k d)) → P k (get_or (set l i v) k d)
set_each P l i v d h p k q =
    ⊎_elim (λ e. subst (λ (j : ℕ). P j (get_or (set l i v) j d)) (sym e) (rw (get_or-set_same l i v d h) p))
    (λ ne. rw (get_or-set_other l i k v d ne) (q ne)) (same_or_not k i)

-- what holds at a place of the list, and of the new value where it is put there, holds at the place afterwards
pub set_at : {A : Type 0} (P : ℕ → A → Type 0) (l : List A) (i : ℕ) (v d : A) (k : ℕ) → k < length l → (k ≡ i → P i v)
    → ((k ≡ i → ⊥) → P k (get_or l k d)) → P k (get_or (set l i v) k d)
set_at P l i v d k h p q =
    ⊎_elim (λ e. set_each P l i v d (omega arith) (p e) k q) (λ ne. rw (get_or-set_other l i k v d ne) (q ne)) (same_or_not k i)
