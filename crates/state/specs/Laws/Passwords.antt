-- What is looked up among the passwords of an object.
use Rattle.std.specs.Prelude.{ℕ, ◌<◌, ◌≤◌, ◌≡◌, refl, Bool, true, false, not, cond, ◌&&◌, ◌||◌, ◌⊎◌, eqb}
use Rattle.std.proofs.Common.{ap, sym, ◌∙◌, true≢false, inl, inr, ⊎_elim, arith, eqb-true, eq-eqb, ne_eqb}
use Rattle.std.proofs.lemmas.List.{get_or-replicate}
use Rattle.std.proofs.lemmas.Bool.{eqb-false, not-true}
use Rattle.bounded.specs.Bools.{and_left, and_right, or_unless, same_or_not}
use Rattle.bounded.specs.Place.{search_cases, found_below, found_some, search_value, search_none}
use Rattle.bounded.specs.Search.{first}
use Rattle.rights.specs.Modes.{pdx}
use Rattle.state.specs.Places.{no_password, free_object, password_at}
use Rattle.state.specs.Lookup.{place_of, ordinary_mode, mode_of, has_password}
use Rattle.state.specs.Laws.Extent.{zero_not, not_zero}
use Rattle.state.specs.declared.Object.{Object}

-- the test by which a word is looked up
abbrev pub shows : Object → ℕ → ℕ → Bool
shows o word k = eqb (password_at o k).word word

-- the word stands at a place among the ordinary passwords
pub record Ordinary (o : Object) (word : ℕ) : Type 0 where
  pub within : place_of o word < 4
  pub there : (password_at o (place_of o word)).word ≡ word

-- a place below 4 is that of the word
pub ordinary_place : (o : Object) (word : ℕ) → place_of o word < 4 → Ordinary o word
unfolding place_of
ordinary_place o word h = record { within = h; there = eqb-true _ _ (found_below (shows o word) 4 h).passes }

-- a word that stands at some place is found
pub ordinary_some : (o : Object) (word k : ℕ) → k < 4 → (password_at o k).word ≡ word → Ordinary o word
unfolding place_of
ordinary_some o word k l h = ordinary_place o word (found_some (shows o word) 4 k l (eq-eqb _ _ h)).0.within

-- a place is at most 4
pub place_of_bound : (o : Object) (word : ℕ) → place_of o word ≤ 4
unfolding place_of
place_of_bound o word = ⊎_elim (λ f. omega arith) (λ m. omega arith) (search_cases (shows o word) 4)

-- a password of the object is nonzero, and the registration's or an ordinary one
pub has_parts : (o : Object) (word : ℕ) → has_password o word ≡ true → (0 < word) × ((o.registration.password ≡ word) ⊎ Ordinary o word)
unfolding has_password
has_parts o word h =
    (not_zero _ (not-true (eqb word 0) (and_left _ _ h)), go (eqb o.registration.password word) refl (and_right (not (eqb word 0)) _ h))
  where
    go : (b : Bool) → eqb o.registration.password word ≡ b → (b || not (eqb (place_of o word) 4)) ≡ true
        → (o.registration.password ≡ word) ⊎ Ordinary o word
    go true e n = inl (eqb-true _ _ e)
    go false e n =
        let ne = eqb-false (place_of o word) 4 (not-true _ n) in
        inr (ordinary_place o word (omega (arith, place_of_bound o word)))

-- such a word is a password of the object
pub parts_has : (o : Object) (word : ℕ) → 0 < word → (o.registration.password ≡ word) ⊎ Ordinary o word → has_password o word ≡ true
unfolding has_password
parts_has o word p (inl e) = rw (zero_not word p, eq-eqb _ _ e)
parts_has o word p (inr r) =
    let ne = ne_eqb (place_of o word) 4 (λ e. omega arith) in
    rw (zero_not word p, ne) (or_unless (eqb o.registration.password word) true (λ z. refl))

-- a word stands nowhere in the object
pub record Nowhere (o : Object) (word : ℕ) : Type 0 where
  pub registration : eqb o.registration.password word ≡ false
  pub ordinary : (k : ℕ) → k < 4 → eqb (password_at o k).word word ≡ false

-- a nonzero word that is no password of the object
pub has_none : (o : Object) (word : ℕ) → has_password o word ≡ false → 0 < word → Nowhere o word
has_none o word h p =
    record {
      registration = ne_eqb _ _ (λ e. true≢false (sym (parts_has o word p (inl e)) ∙ h));
      ordinary = λ k l. ne_eqb _ _ (λ e. true≢false (sym (parts_has o word p (inr (ordinary_some o word k l e))) ∙ h));
    }

-- an ordinary password has the mode that stands at its place
pub ordinary_mode_lem : (o : Object) (word : ℕ) → Ordinary o word → 0 < word → ordinary_mode o word ≡ (password_at o (place_of o word)).mode
unfolding ordinary_mode place_of
ordinary_mode_lem o word r p =
    rw (zero_not word p) (search_value (shows o word) 4 (λ k. (password_at o k).mode) 0 r.within)

-- a word with a nonzero mode among the ordinary passwords is one of them
pub mode_ordinary : (o : Object) (word : ℕ) → 0 < ordinary_mode o word → (0 < word) × Ordinary o word
unfolding ordinary_mode place_of
mode_ordinary o word h = go (eqb word 0) refl h
  where
    go : (b : Bool) → eqb word 0 ≡ b → 0 < cond b 0 (first (shows o word) (λ k. (password_at o k).mode) 0 0 4)
        → (0 < word) × Ordinary o word
    go true e n = absurd (omega arith)
    go false e n = (
      not_zero word e,
      ⊎_elim (λ f. ordinary_place o word f.within)
          (λ m. absurd (omega (arith, search_none (shows o word) 4 (λ k. (password_at o k).mode) 0 m.end)))
          (search_cases (shows o word) 4),
    )

-- a word with a nonzero mode is a password of the object: the registration's, with mode pdx, or an ordinary one
pub mode_parts : (o : Object) (word : ℕ) → 0 < mode_of o word
    → (0 < word) × (((o.registration.password ≡ word) × (mode_of o word ≡ pdx)) ⊎ (Ordinary o word × (mode_of o word ≡ ordinary_mode o word)))
unfolding mode_of
mode_parts o word h = go (not (eqb word 0) && eqb o.registration.password word) refl h
  where
    go : (b : Bool) → (not (eqb word 0) && eqb o.registration.password word) ≡ b → 0 < cond b pdx (ordinary_mode o word)
        → (0 < word) × (((o.registration.password ≡ word) × (cond b pdx (ordinary_mode o word) ≡ pdx)) ⊎ (Ordinary o word × (cond b pdx (ordinary_mode o word) ≡ ordinary_mode o word)))
    go true e n = (not_zero word (not-true _ (and_left _ _ e)), inl (eqb-true _ _ (and_right (not (eqb word 0)) _ e), refl))
    go false e n = let r = mode_ordinary o word n in (r.0, inr (r.1, refl))

-- and so the object has it
pub mode_has : (o : Object) (word : ℕ) → 0 < mode_of o word → has_password o word ≡ true
mode_has o word h = let r = mode_parts o word h in parts_has o word r.0 (⊎_elim (λ a. inl a.0) (λ a. inr a.0) r.1)

-- a free object has no password
pub free_mode : (word : ℕ) → ordinary_mode free_object word ≡ 0
free_mode word = ⊎_elim (λ z. z) (λ n. absurd (none (mode_ordinary free_object word (omega arith)))) (same_or_not (ordinary_mode free_object word) 0)
  where
    none : (0 < word) × Ordinary free_object word → ⊥
    none r = omega (arith, ap (λ p. p.word) (get_or-replicate 4 (place_of free_object word) no_password no_password r.1.within))
