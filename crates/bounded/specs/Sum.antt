-- Sums over the places below a bound.
use Rattle.std.specs.Prelude.{ℕ, suc, ◌+◌, ◌<◌, ◌≡◌, refl, List, ◌⊎◌, length, get_or, set}
use Rattle.std.proofs.Common.{inl, inr, arith, get_or-set_same, get_or-set_other}
use Rattle.bounded.specs.Bools.{same_or_not}

-- `f 0` + .. + `f (n - 1)`
unfoldable pub total : ℕ → (ℕ → ℕ) → ℕ
total ℕ.zero f = 0
total (suc n) f = total n f + f n

-- sums of equals
pub total_same : (n : ℕ) (f g : ℕ → ℕ) → ((i : ℕ) → i < n → f i ≡ g i) → total n f ≡ total n g
unfolding total
total_same ℕ.zero f g h = refl
total_same (suc n) f g h = rw (total_same n f g (λ i l. h i (omega arith)), h n (omega arith))

-- a sum of zeros
pub total_none : (n : ℕ) (f : ℕ → ℕ) → ((i : ℕ) → i < n → f i ≡ 0) → total n f ≡ 0
unfolding total
total_none ℕ.zero f h = refl
total_none (suc n) f h = rw (total_none n f (λ i l. h i (omega arith)), h n (omega arith))

-- sums that differ at one place
pub total_one : (n i : ℕ) (f g : ℕ → ℕ) → i < n → ((k : ℕ) → k < n → (k ≡ i → ⊥) → f k ≡ g k) → total n f + g i ≡ total n g + f i
unfolding total
total_one ℕ.zero i f g l h = absurd (omega arith)
total_one (suc n) i f g l h = go (λ m. total_one n i f g m (λ k o. h k (omega arith))) (same_or_not n i)
  where
    go : (i < n → total n f + g i ≡ total n g + f i) → (n ≡ i) ⊎ (n ≡ i → ⊥) → total (suc n) f + g i ≡ total (suc n) g + f i
    go ih (inl e) = let s = total_same n f g (λ k m. h k (omega arith) (omega arith)) in rw (← e, s) (omega arith)
    go ih (inr ne) = let s = ih (omega arith) in let q = h n (omega arith) ne in omega arith

-- a sum of one place, the others 0
pub total_only : (n i : ℕ) (f : ℕ → ℕ) → i < n → ((k : ℕ) → k < n → (k ≡ i → ⊥) → f k ≡ 0) → total n f ≡ f i
total_only n i f l h = omega (arith, total_one n i f (λ k. 0) l h, total_none n (λ k. 0) (λ k m. refl))

-- a sum over a list, one place of it set
pub total_set : {A : Type 0} (n : ℕ) (g : A → ℕ) (l : List A) (i : ℕ) (v d : A) → i < n → length l ≡ n
    → total n (λ k. g (get_or (set l i v) k d)) + g (get_or l i d) ≡ total n (λ k. g (get_or l k d)) + g v
total_set n g l i v d m e =
    let s = total_one n i (λ k. g (get_or (set l i v) k d)) (λ k. g (get_or l k d)) m (λ k o ne. rw (get_or-set_other l i k v d ne)) in
    rw (get_or-set_same l i v d (omega arith)) at s
