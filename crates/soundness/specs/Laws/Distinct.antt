-- Lists in which no number but 0 stands twice.
use Rattle.std.specs.Prelude.{ℕ, suc, ◌<◌, ◌≡◌, refl, true, false, not, ◌||◌, List, [], ◌∷◌, eqb, length, set, get_or}
use Rattle.std.proofs.Common.{ap, sym, ⊎_elim, arith, eqb-true, ne_eqb}
use Rattle.std.proofs.lemmas.Bool.{eqb-false, not-true}
use Rattle.bounded.specs.Bools.{flag, and_left, and_right, and_both, unless, or_unless}
use Rattle.bounded.specs.Fill.{tabulate}
use Rattle.soundness.specs.Sound.{absent, distinct}

-- a number that stands at no place is absent
pub absent_tabulate : (w n : ℕ) (f : ℕ → ℕ) → ((k : ℕ) → k < n → eqb (f k) w ≡ false) → absent w (tabulate n f) ≡ true
unfolding absent
absent_tabulate w ℕ.zero f h = refl
absent_tabulate w (suc n) f h = and_both (ap not (h 0 (omega arith))) (absent_tabulate w n (λ k. f (suc k)) (λ k l. h (suc k) (omega arith)))

absent_set : (x w : ℕ) (l : List ℕ) (i : ℕ) → eqb w x ≡ false → absent x l ≡ true → absent x (set l i w) ≡ true
unfolding absent
absent_set x w [] i e h = refl
absent_set x w (y ∷ l) ℕ.zero e h = and_both (ap not e) (and_right (not (eqb y x)) _ h)
absent_set x w (y ∷ l) (suc i) e h = and_both (and_left (not (eqb y x)) _ h) (absent_set x w l i e (and_right (not (eqb y x)) _ h))

-- no number stands twice once 0, or a number that was absent, is put in
pub distinct_set : (w : ℕ) (l : List ℕ) (i : ℕ) → (eqb w 0 || absent w l) ≡ true → distinct l ≡ true → distinct (set l i w) ≡ true
unfolding distinct absent
distinct_set w [] i n h = refl
distinct_set w (y ∷ l) ℕ.zero n h =
    and_both (or_unless (eqb w 0) _ (λ z. and_right (not (eqb y w)) _ (unless (eqb w 0) _ n z))) (and_right (eqb y 0 || absent y l) _ h)
distinct_set w (y ∷ l) (suc i) n h =
    and_both
    (or_unless (eqb y 0) _ (λ z. absent_set y w l i (other z) (unless (eqb y 0) _ (and_left (eqb y 0 || absent y l) _ h) z)))
    (distinct_set w l i (or_unless (eqb w 0) _ (λ z. and_right (not (eqb y w)) _ (unless (eqb w 0) _ n z))) (and_right (eqb y 0 || absent y l) _ h))
  where
    other : eqb y 0 ≡ false → eqb w y ≡ false
    other z = ne_eqb w y (λ e. eqb-false y w (not-true _ (and_left (not (eqb y w)) _ (unless (eqb w 0) _ n (rw e z)))) (sym e))

absent_from : (w : ℕ) (l : List ℕ) → ((j : ℕ) → j < length l → get_or l j 0 ≡ w → ⊥) → absent w l ≡ true
unfolding absent
absent_from w [] h = refl
absent_from w (x ∷ l) h = and_both (ap not (ne_eqb x w (h 0 (omega arith)))) (absent_from w l (λ j m. h (suc j) (omega arith)))

-- where of two places with the same number the number is 0, none stands twice
pub pairs_distinct : (l : List ℕ) → ((i j : ℕ) → i < j → j < length l → get_or l i 0 ≡ get_or l j 0 → get_or l i 0 ≡ 0) → distinct l ≡ true
unfolding distinct
pairs_distinct [] h = refl
pairs_distinct (x ∷ l) h =
    and_both (or_unless (eqb x 0) _ (λ z. absent_from x l (λ j m e. eqb-false x 0 z (h 0 (suc j) (omega arith) (omega arith) (sym e)))))
    (pairs_distinct l (λ i j a b e. h (suc i) (suc j) (omega arith) (omega arith) e))

absent_at : (w : ℕ) (l : List ℕ) (j : ℕ) → j < length l → absent w l ≡ true → get_or l j 0 ≡ w → ⊥
unfolding absent
absent_at w [] j m h = absurd (omega arith)
absent_at w (x ∷ l) ℕ.zero m h = eqb-false x w (not-true (eqb x w) (and_left _ _ h))
absent_at w (x ∷ l) (suc j) m h = absent_at w l j (omega arith) (and_right (not (eqb x w)) _ h)

-- of two places with the same number in such a list, the number is 0
pub distinct_at : (l : List ℕ) (i j : ℕ) → i < j → j < length l → distinct l ≡ true → get_or l i 0 ≡ get_or l j 0 → get_or l i 0 ≡ 0
unfolding distinct
distinct_at [] i j m n h e = refl
distinct_at (x ∷ l) i ℕ.zero m n h e = absurd (omega arith)
distinct_at (x ∷ l) ℕ.zero (suc j) m n h e =
    ⊎_elim (λ z. eqb-true x 0 z)
    (λ z. absurd (absent_at x l j (omega arith) (unless (eqb x 0) _ (and_left (eqb x 0 || absent x l) _ h) z) (sym e))) (flag (eqb x 0))
distinct_at (x ∷ l) (suc i) (suc j) m n h e =
    distinct_at l i j (omega arith) (omega arith) (and_right (eqb x 0 || absent x l) _ h) e
