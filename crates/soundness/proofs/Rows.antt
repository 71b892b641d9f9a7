-- What the tests along a row of places say place by place.
use Rattle.std.proofs.Common.{ℕ, suc, ◌+◌, ◌≡◌, refl, sym, ◌∙◌, ap, arith, zero-add, ◌⊎◌, inl, inr, true≢false, Bool, true, false, not, ◌&&◌, ◌||◌, eqb, List, [], ◌∷◌, length, get_or}
use Rattle.std.specs.List.{list_all, enumerate_from, range_with_len, zip, IsAllAdjacentAnswer}
use Rattle.bounded.specs.Bools.{flag}
use Rattle.bounded.specs.Every.{below, below_front, below_same, below_all, below_at}
use Rattle.soundness.specs.Sound.{absent, distinct}

-- each element passes, by its number
numbered : {A : Type 0} (d : A) (q : ℕ → A → Bool) (i : ℕ) (xs : List A)
    → list_all (λ x. q x.0 x.1) (enumerate_from i xs) ≡ below (length xs) (λ k. q (i + k) (get_or xs k d))
unfolding below
numbered d q i [] = refl
numbered d q i (x ∷ xs) =
    let z : i ≡ i + 0 = omega arith in
    ap (λ b. q i x && b)
    (numbered d q (i + 1) xs ∙ below_same (length xs) _ _ (λ k l. let e : i + 1 + k ≡ i + suc k = omega arith in ap (λ j. q j (get_or xs k d)) e))
    ∙ (ap (λ j. q j x && below (length xs) (λ k. q (i + suc k) (get_or xs k d))) z ∙ sym (below_front (length xs) (λ k. q (i + k) (get_or (x ∷ xs) k d))))

pub all_numbered : {A : Type 0} (d : A) (q : ℕ → A → Bool) (xs : List A) (n : ℕ) → length xs ≡ n
    → list_all (λ x. q x.0 x.1) (enumerate_from 0 xs) ≡ below n (λ k. q k (get_or xs k d))
all_numbered d q xs n h =
    rw (← h) (numbered d q 0 xs ∙ below_same (length xs) _ _ (λ k l. ap (λ j. q j (get_or xs k d)) (zero-add k)))

-- each of n + 1 elements and the next pass
pub all_adjacent : {A : Type 0} (d : A) (e : A → A → Bool) (xs : List A) (n : ℕ) (r : Bool) → length xs ≡ n + 1
    → IsAllAdjacentAnswer (λ x y b. b ≡ e x y) xs r → r ≡ below n (λ k. e (get_or xs k d) (get_or xs (k + 1) d))
all_adjacent d e xs n true h a = sym (below_all n _ (λ k l. sym (a k d (omega arith))))
all_adjacent d e xs n false h a = go (flag (below n (λ k. e (get_or xs k d) (get_or xs (k + 1) d))))
  where
    go : (below n (λ k. e (get_or xs k d) (get_or xs (k + 1) d)) ≡ true) ⊎ (below n (λ k. e (get_or xs k d) (get_or xs (k + 1) d)) ≡ false)
        → false ≡ below n (λ k. e (get_or xs k d) (get_or xs (k + 1) d))
    go (inl t) = absurd (true≢false (sym (below_at n _ t a.0 (omega arith)) ∙ sym (a.2 d)))
    go (inr f) = sym f

-- a number that none of the others equals is absent
pub all_others : (w : ℕ) (xs : List ℕ) → list_all (λ x. not (eqb x w)) xs ≡ absent w xs
unfolding absent
all_others w [] = refl
all_others w (x ∷ xs) = ap (λ b. not (eqb x w) && b) (all_others w xs)

-- what no nonzero number stands twice in says of the first and of the rest
pub distinct_cons : (x : ℕ) (xs : List ℕ) → distinct (x ∷ xs) ≡ ((eqb x 0 || absent x xs) && distinct xs)
unfolding distinct
distinct_cons x xs = refl

pub distinct_none : (xs : List ℕ) → length xs ≡ 0 → distinct xs ≡ true
unfolding distinct
distinct_none [] h = refl
distinct_none (x ∷ xs) h = absurd (omega arith)

-- each of n elements passes beside its number
zipped : {A : Type 0} (d : A) (q : ℕ → A → Bool) (i n : ℕ) (xs : List A) → length xs ≡ n
    → list_all (λ x. q x.1 x.0) (zip xs (range_with_len i n)) ≡ below n (λ k. q (i + k) (get_or xs k d))
unfolding below
zipped d q i ℕ.zero [] h = refl
zipped d q i ℕ.zero (x ∷ xs) h = absurd (omega arith)
zipped d q i (suc n) [] h = absurd (omega arith)
zipped d q i (suc n) (x ∷ xs) h =
    let z : i ≡ i + 0 = omega arith in
    ap (λ b. q i x && b)
    (zipped d q (i + 1) n xs (omega arith) ∙ below_same n _ _ (λ k l. let e : i + 1 + k ≡ i + suc k = omega arith in ap (λ j. q j (get_or xs k d)) e))
    ∙ (ap (λ j. q j x && below n (λ k. q (i + suc k) (get_or xs k d))) z ∙ sym (below_front n (λ k. q (i + k) (get_or (x ∷ xs) k d))))

pub all_zipped : {A : Type 0} (d : A) (q : ℕ → A → Bool) (xs : List A) (n : ℕ) → length xs ≡ n
    → list_all (λ x. q x.1 x.0) (zip xs (range_with_len 0 n)) ≡ below n (λ k. q k (get_or xs k d))
all_zipped d q xs n h = zipped d q 0 n xs h ∙ below_same n _ _ (λ k l. ap (λ j. q j (get_or xs k d)) (zero-add k))
