-- The place that a search finds, and that a search for a value stops at the same place.
use Rattle.std.specs.Prelude.{ℕ, suc, ◌+◌, ◌<◌, ◌≤◌, ◌≡◌, refl, Bool, ◌⊎◌, ltb}
use Rattle.std.proofs.Common.{sym, ◌∙◌, true≢false, inl, inr, arith, ltb-true, ltb-false, lt-ltb, le-ltb}
use Rattle.std.proofs.Math.Bool.{true, false, cond}
use Rattle.bounded.specs.Search.{first, FirstAt, NoneAt, first_cases, first_none, first_at}

module _ (test : ℕ → Bool) (n : ℕ) where
  -- the first of n places that passes, n where there is none
  abbrev pub place_for : ℕ
  place_for = first test (λ k. k) n 0 n

  -- a place that passes, and no place before it
  pub record PlaceFound : Type 0 where
    pub within : place_for < n
    pub passes : test place_for ≡ true
    pub before : (j : ℕ) → j < place_for → test j ≡ false

  -- no place that passes
  pub record PlaceMissing : Type 0 where
    pub end : place_for ≡ n
    pub none : (j : ℕ) → j < n → test j ≡ false

  -- one or the other
  pub search_cases : PlaceFound ⊎ PlaceMissing
  search_cases = go (first_cases test (λ k. k) n 0 n)
    where
      go : FirstAt test (λ k. k) 0 n place_for ⊎ NoneAt test 0 n → PlaceFound ⊎ PlaceMissing
      go (inl r) =
          inl (record { within = omega arith; passes = rw (← r.there) r.holds; before = λ j l. r.before j (omega arith) (omega arith) })
      go (inr h) = inr (record { end = first_none test (λ k. k) n 0 n h; none = λ j l. h j (omega arith) (omega arith) })

  -- a place below n is one that passes
  pub found_below : place_for < n → PlaceFound
  found_below h = go search_cases
    where
      go : PlaceFound ⊎ PlaceMissing → PlaceFound
      go (inl f) = f
      go (inr m) = absurd (omega arith)

  -- where the place is n, none passes
  pub missing_end : place_for ≡ n → PlaceMissing
  missing_end h = go search_cases
    where
      go : PlaceFound ⊎ PlaceMissing → PlaceMissing
      go (inl f) = absurd (omega arith)
      go (inr m) = m

  -- where some place passes, one is found, and it comes no later
  pub found_some : (k : ℕ) → k < n → test k ≡ true → PlaceFound × (place_for ≤ k)
  found_some k l h = go search_cases
    where
      go : PlaceFound ⊎ PlaceMissing → PlaceFound × (place_for ≤ k)
      go (inl f) = (f, not_below f (ltb k place_for) refl)
        where
          not_below : PlaceFound → (b : Bool) → ltb k place_for ≡ b → place_for ≤ k
          not_below f true e = absurd (true≢false (sym h ∙ f.before k (ltb-true _ _ e)))
          not_below f false e = ltb-false _ _ e
      go (inr m) = absurd (true≢false (sym h ∙ m.none k l))

  -- a search for a value stops at the same place
  pub search_value : {A : Type 0} (value : ℕ → A) (none : A) → place_for < n → first test value none 0 n ≡ value place_for
  search_value value none h =
      let f = found_below h in
      first_at test value none 0 n (value place_for)
      (record {
        place = place_for;
        from = omega arith;
        below = omega arith;
        there = refl;
        holds = f.passes;
        before = λ j a z. f.before j z;
      })

  -- and ends without a value where none passes
  pub search_none : {A : Type 0} (value : ℕ → A) (none : A) → place_for ≡ n → first test value none 0 n ≡ none
  search_none value none h = let m = missing_end h in first_none test value none 0 n (λ j a z. m.none j (omega arith))

-- the value at a place, `none` past the last
abbrev pub value_at : {A : Type 0} → (ℕ → A) → A → ℕ → ℕ → A
value_at value none m p = cond (ltb p m) (value p) none

module _ {A : Type 0} (test : ℕ → Bool) (value : ℕ → A) (none : A) where
  -- what a search finds is what stands at the place that the same search for a place finds
  pub by_place : (i n m : ℕ) → i + n ≡ m → first test value none i n ≡ value_at value none m (first test (λ k. k) m i n)
  unfolding first
  by_place i ℕ.zero m e = rw (le-ltb m m (omega arith))
  by_place i (suc n) m e = go (test i) (first test (λ k. k) m (i + 1) n) (by_place (i + 1) n m (omega arith))
    where
      go : (t : Bool) (p : ℕ) {x : A} → x ≡ value_at value none m p → cond t (value i) x ≡ value_at value none m (cond t i p)
      go true p ih = rw (lt-ltb i m (omega arith))
      go false p ih = ih
