-- Some values of an array laid anew, over bytes that have the others already.
use Rattle.std.specs.Prelude.{ℕ, suc, ◌+◌, ◌-◌, ◌*◌, ◌<◌, ◌≤◌, ◌≡◌, refl, Bool, true, false, List, [], ◌∷◌, ◌++◌, ◌⊎◌, leb, length, get_or, set}
use Rattle.std.proofs.Common.{ap, sym, ◌∙◌, append_assoc, inl, inr, arith, suc-add, zero-add, add-zero, length-append, drop_at, take_all, leb-true, leb-false}
use Rattle.std.proofs.lemmas.List.Edits.{sets-eq}
use Rattle.codec.specs.Codec.{Bytes, Codec}
use Rattle.codec.specs.Array.{times, runs, array, puts_length}
use Rattle.codec.specs.Laid.{lay, lay_sets}
use Rattle.codec.specs.Loop.{times_mul}

lay_cons : (x : ℕ) (l : List ℕ) (i : ℕ) (ys : List ℕ) → lay (x ∷ l) (suc i) ys ≡ x ∷ lay l i ys
lay_cons x l i [] = refl
lay_cons x l i (y ∷ ys) = rw suc-add (lay_cons x (set l i y) (i + 1) ys)

-- what is laid behind a run, and over one
lay_behind : (p q : List ℕ) (i : ℕ) (ys : List ℕ) → lay (p ++ q) (length p + i) ys ≡ p ++ lay q i ys
lay_behind [] q i ys = rw zero-add
lay_behind (x ∷ p) q i ys = rw suc-add (lay_cons x (p ++ q) (length p + i) ys ∙ ap (λ t. x ∷ t) (lay_behind p q i ys))

lay_over : (p q ys : List ℕ) → length ys ≡ length p → lay (p ++ q) 0 ys ≡ ys ++ q
lay_over p q ys e =
    let z : 0 + length ys ≡ length p = omega arith in
    rw (lay_sets, sets-eq ys (p ++ q) 0 (rw length-append (omega arith)), z, drop_at p q (length p) refl)

runs_same : (k : ℕ) (f g : ℕ → List ℕ) → ((j : ℕ) → j < k → f j ≡ g j) → runs k f ≡ runs k g
runs_same ℕ.zero f g h = refl
runs_same (suc k) f g h = cc (h 0 (omega arith), runs_same k (λ j. f (suc j)) (λ j. g (suc j)) (λ j l. h (suc j) (omega arith)))

runs_split : (a b : ℕ) (f : ℕ → List ℕ) → runs (a + b) f ≡ runs a f ++ runs b (λ j. f (a + j))
runs_split ℕ.zero b f = simp zero-add
runs_split (suc a) b f = rw (suc-add, runs_split a b (λ i. f (suc i)), append_assoc) (simp suc-add)

-- of k values those of a run, m behind the first `from`, are laid anew; before it and behind it the values are the same
lay_run : {n : ℕ} {A : Type 0} (c : Codec n A) (x y : ℕ → A) (k from m r : ℕ) → k ≡ from + (m + r)
    → ((j : ℕ) → j < from → x j ≡ y j) → ((j : ℕ) → j < r → x (from + (m + j)) ≡ y (from + (m + j)))
    → lay (runs k (λ j. c.put (x j))) (n * from) (runs m (λ j. c.put (y (from + j)))) ≡ runs k (λ j. c.put (y j))
lay_run {n} c x y k from m r e before behind =
    let at : n * from ≡ length (runs from (λ j. c.put (x j))) + 0 = rw (add-zero, puts_length c from x, times_mul from n) in
    rw (
      e,
      runs_split from (m + r) (λ j. c.put (x j)),
      runs_split from (m + r) (λ j. c.put (y j)),
      runs_split m r (λ j. c.put (x (from + j))),
      runs_split m r (λ j. c.put (y (from + j))),
      at,
      lay_behind,
      lay_over _ _ (runs m (λ j. c.put (y (from + j)))) (puts_length c m (λ j. y (from + j)) ∙ sym (puts_length c m (λ j. x (from + j)))),
      runs_same from _ _ (λ j l. ap c.put (before j l)),
      runs_same r _ _ (λ j l. ap c.put (behind j l)),
    )

-- the values `xs` go into bytes that have those outside the run from `from` to `to` already
module _ {n : ℕ} {A : Type 0} (c : Codec n A) (d : A) (k : ℕ) (old : List ℕ) (xs : List A) (from to : ℕ) where
  abbrev pub Outside : Type 0
  Outside = (j : ℕ) → j < k → (j < from) ⊎ (to ≤ j) → get_or xs j d ≡ get_or ((array k c d).get old) j d

  -- THE RUN IS ENOUGH: with it laid, the bytes have all values
  pub anew : Bytes old → length old ≡ times k n → (array k c d).ok old ≡ true → to ≤ k → Outside
      → lay old (n * from) (runs (to - from) (λ j. c.put (get_or xs (from + j) d))) ≡ (array k c d).put xs
  anew h l o within out = ap (λ t. lay t (n * from) (runs (to - from) (λ j. c.put (get_or xs (from + j) d)))) there ∙ go (leb from to) refl
    where
      was : ℕ → A
      was j = get_or ((array k c d).get old) j d

      there : old ≡ runs k (λ j. c.put (was j))
      there = sym (take_all (times k n) old (omega arith)) ∙ sym ((array k c d).put_get old h (omega arith) o)

      go : (b : Bool) → leb from to ≡ b
          → lay (runs k (λ j. c.put (was j))) (n * from) (runs (to - from) (λ j. c.put (get_or xs (from + j) d))) ≡ (array k c d).put xs
      go true e =
          let f : from ≤ to = leb-true from to e in
          lay_run c was (λ j. get_or xs j d) k from (to - from) (k - to) (omega arith) (λ j m. sym (out j (omega arith) (inl m)))
          (λ j m. sym (out (from + (to - from + j)) (omega arith) (inr (omega arith))))
      go false e =
          let z : to - from ≡ 0 = omega (arith, leb-false from to e) in
          rw z (runs_same k _ _ (λ j m. ap c.put (sym (out j m (beside j (leb to j) refl)))))
        where
          beside : (j : ℕ) (b : Bool) → leb to j ≡ b → (j < from) ⊎ (to ≤ j)
          beside j true q = inr (leb-true to j q)
          beside j false q = inl (omega (arith, leb-false to j q, leb-false from to e))
