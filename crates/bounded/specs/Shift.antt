-- A row of places with a value more or less: those behind it move by one.
use Prim.Native.Nat.{ℕ, suc, ◌+◌, ◌-◌, ◌<◌, ◌≤◌}
use Rattle.std.specs.Prelude.{◌≡◌, cond, ◌⊎◌, ltb, eqb}
use Rattle.std.proofs.Math.Path.{refl, ap}
use Rattle.std.proofs.Common.{inl, inr, add-one, ltb-true, ltb-false, eqb-true}
use native.Mathlib.Omega.{arith}
use Rattle.std.proofs.lemmas.Bool.{eqb-false}
use Rattle.bounded.specs.Bools.{cond_ind, same_or_not}
use Rattle.bounded.specs.Sum.{total}

-- what stands at k once v is put in at `at`: what stood there and behind it stands one place later
abbrev pub put_in : {A : Type 0} → (ℕ → A) → ℕ → A → ℕ → A
put_in g at v k = cond (ltb k at) (g k) (cond (eqb k at) v (g (k - 1)))

-- what stands at k once that at `at` is taken out: what stood behind it stands one place earlier, and `none` at the last place
abbrev pub taken_out : {A : Type 0} → (ℕ → A) → ℕ → A → ℕ → ℕ → A
taken_out g last none at k = cond (ltb k at) (g k) (cond (ltb k last) (g (k + 1)) none)

module _ {A : Type 0} (g : ℕ → A) (at : ℕ) (v : A) where
  -- what holds before the place, of the value, and of what stood one place earlier
  pub in_cases : (P : A → Type 0) (k : ℕ) → (k < at → P (g k)) → (k ≡ at → P v) → (at < k → P (g (k - 1))) → P (put_in g at v k)
  in_cases P k before here behind =
      cond_ind P (ltb k at) (g k) _ (λ e. before (ltb-true k at e))
      (λ e. cond_ind P (eqb k at) v (g (k - 1)) (λ f. here (eqb-true k at f))
      (λ f. behind (omega (arith, ltb-false k at e, eqb-false k at f))))

  -- A SUM over such a row moves by the value, and by what goes at the last place
  module _ (m : A → ℕ) where
    in_before : (n : ℕ) → n ≤ at → total n (λ k. m (put_in g at v k)) ≡ total n (λ k. m (g k))
    unfolding total
    in_before ℕ.zero l = refl
    in_before (suc n) l =
        let here = in_cases (λ x. m x ≡ m (g n)) n (λ a. refl) (λ a. absurd (omega arith)) (λ a. absurd (omega arith)) in
        omega (arith, in_before n (omega arith), here)

    pub in_total : (n : ℕ) → at < suc n → total (suc n) (λ k. m (put_in g at v k)) + m (g n) ≡ total (suc n) (λ k. m (g k)) + m v
    unfolding total
    in_total ℕ.zero l =
        let here = in_cases (λ x. m x ≡ m v) 0 (λ a. absurd (omega arith)) (λ a. refl) (λ a. absurd (omega arith)) in
        omega (arith, here)
    in_total (suc n) l = go (λ b. in_total n b) (same_or_not (suc n) at)
      where
        go : (at < suc n → total (suc n) (λ k. m (put_in g at v k)) + m (g n) ≡ total (suc n) (λ k. m (g k)) + m v) → (suc n ≡ at) ⊎ (suc n ≡ at → ⊥)
            → total (suc (suc n)) (λ k. m (put_in g at v k)) + m (g (suc n)) ≡ total (suc (suc n)) (λ k. m (g k)) + m v
        go ih (inl e) =
            let here = in_cases (λ x. m x ≡ m v) (suc n) (λ a. absurd (omega arith)) (λ a. refl) (λ a. absurd (omega arith)) in
            omega (arith, in_before (suc n) (omega arith), here)
        go ih (inr ne) =
            let one : suc n - 1 ≡ n = omega arith in
            let here = in_cases (λ x. m x ≡ m (g n)) (suc n) (λ a. absurd (omega arith)) (λ a. absurd (ne a)) (λ a. rw one) in
            omega (arith, ih (omega arith), here)

module _ {A : Type 0} (g : ℕ → A) (last : ℕ) (none : A) (at : ℕ) where
  -- what holds before the place, of what stood one place later, and of `none`
  pub out_cases : (P : A → Type 0) (k : ℕ) → (k < at → P (g k)) → (at ≤ k → k < last → P (g (k + 1))) → (at ≤ k → last ≤ k → P none)
      → P (taken_out g last none at k)
  out_cases P k before behind end =
      cond_ind P (ltb k at) (g k) _ (λ e. before (ltb-true k at e))
      (λ e. cond_ind P (ltb k last) (g (k + 1)) none (λ f. behind (ltb-false k at e) (ltb-true k last f)) (λ f. end (ltb-false k at e) (ltb-false k last f)))

  module _ (m : A → ℕ) where
    out_before : (n : ℕ) → n ≤ at → total n (λ k. m (taken_out g last none at k)) ≡ total n (λ k. m (g k))
    unfolding total
    out_before ℕ.zero l = refl
    out_before (suc n) l =
        let here = out_cases (λ x. m x ≡ m (g n)) n (λ a. refl) (λ a b. absurd (omega arith)) (λ a b. absurd (omega arith)) in
        omega (arith, out_before n (omega arith), here)

    out_behind : (n : ℕ) → at ≤ n → n ≤ last → total n (λ k. m (taken_out g last none at k)) + m (g at) ≡ total (suc n) (λ k. m (g k))
    unfolding total
    out_behind ℕ.zero l b = let e : at ≡ 0 = omega arith in omega (arith, ap (λ k. m (g k)) e)
    out_behind (suc n) l b = go (λ c. out_behind n c (omega arith)) (same_or_not (suc n) at)
      where
        go : (at ≤ n → total n (λ k. m (taken_out g last none at k)) + m (g at) ≡ total (suc n) (λ k. m (g k))) → (suc n ≡ at) ⊎ (suc n ≡ at → ⊥)
            → total (suc n) (λ k. m (taken_out g last none at k)) + m (g at) ≡ total (suc (suc n)) (λ k. m (g k))
        go ih (inl e) = omega (arith, out_before (suc n) (omega arith), ap (λ k. m (g k)) e)
        go ih (inr ne) =
            let here = out_cases (λ x. m x ≡ m (g (suc n))) n (λ a. absurd (omega arith)) (λ a c. rw (add-one n)) (λ a c. absurd (omega arith)) in
            omega (arith, ih (omega arith), here)

    -- A SUM over such a row moves by what is taken out
    pub out_total : at ≤ last → total (suc last) (λ k. m (taken_out g last none at k)) + m (g at) ≡ total (suc last) (λ k. m (g k)) + m none
    unfolding total
    out_total l =
        let here = out_cases (λ x. m x ≡ m none) last (λ a. absurd (omega arith)) (λ a b. absurd (omega arith)) (λ a b. refl) in
        omega (arith, out_behind last l (omega arith), here)
