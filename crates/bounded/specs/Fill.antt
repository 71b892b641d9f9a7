-- A list given place by place.
use Rattle.std.specs.Prelude.{ℕ, suc, ◌<◌, List, [], ◌∷◌, ◌≡◌, refl, length, get_or, set}
use Rattle.std.proofs.Common.{ap, le_of_suc-le-suc, not-suc-le-zero, arith}
use Rattle.std.proofs.Math.Nat.{suc_inj}

-- the list of `f 0`, .., `f (n - 1)`
abbrev pub tabulate : {A : Type 0} → ℕ → (ℕ → A) → List A
tabulate ℕ.zero f = []
tabulate (suc n) f = f 0 ∷ tabulate n (λ k. f (suc k))

pub tabulate_at : {A : Type 0} (n : ℕ) (f : ℕ → A) (k : ℕ) (d : A) → k < n → get_or (tabulate n f) k d ≡ f k
tabulate_at ℕ.zero f k d h = absurd (not-suc-le-zero h)
tabulate_at (suc n) f ℕ.zero d h = refl
tabulate_at (suc n) f (suc k) d h = tabulate_at n (λ j. f (suc j)) k d (le_of_suc-le-suc h)

-- a list read place by place, one place of it set
pub tabulate_set : {A B : Type 0} (n : ℕ) (g : A → B) (l : List A) (i : ℕ) (v d : A) → length l ≡ n
    → tabulate n (λ k. g (get_or (set l i v) k d)) ≡ set (tabulate n (λ k. g (get_or l k d))) i (g v)
tabulate_set ℕ.zero g [] i v d h = refl
tabulate_set ℕ.zero g (x ∷ l) i v d h = absurd (omega arith)
tabulate_set (suc n) g [] i v d h = absurd (omega arith)
tabulate_set (suc n) g (x ∷ l) ℕ.zero v d h = refl
tabulate_set (suc n) g (x ∷ l) (suc i) v d h = ap (λ t. g x ∷ t) (tabulate_set n g l i v d (suc_inj h))

-- lists that agree at each place are equal
pub by_places : {A : Type 0} (n : ℕ) (l m : List A) (d : A) → length l ≡ n → length m ≡ n → ((k : ℕ) → k < n → get_or l k d ≡ get_or m k d) → l ≡ m
by_places ℕ.zero [] [] d a b h = refl
by_places ℕ.zero (x ∷ l) m d a b h = absurd (omega arith)
by_places ℕ.zero [] (y ∷ m) d a b h = absurd (omega arith)
by_places (suc n) [] m d a b h = absurd (omega arith)
by_places (suc n) (x ∷ l) [] d a b h = absurd (omega arith)
by_places (suc n) (x ∷ l) (y ∷ m) d a b h =
    rw (h 0 (omega arith)) (ap (λ t. y ∷ t) (by_places n l m d (suc_inj a) (suc_inj b) (λ k o. h (suc k) (omega arith))))
