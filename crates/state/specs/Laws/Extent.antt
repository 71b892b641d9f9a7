-- Laws of the run of pages of an object: its tests taken apart and put together, and the changes that keep it.
use Rattle.std.specs.Prelude.{ℕ, ◌+◌, ◌<◌, ◌≤◌, ◌≡◌, refl, Bool, true, false, ◌||◌, ◌⊎◌, leb, eqb}
use Rattle.std.proofs.Common.{inl, inr, ⊎_elim, arith, leb-true, leb-false, le-leb, ltb-true, lt-ltb, ne_eqb}
use Rattle.std.proofs.lemmas.Bool.{eqb-false}
use Rattle.bounded.specs.Bools.{and_left, and_right, and_both, or_unless, cond_ind}
use Rattle.state.specs.Places.{free_registration}
use Rattle.state.specs.Extent.{free, covers, apart}
use Rattle.state.specs.Update.{with_registration, add_password, drop_password}
use Rattle.state.specs.declared.Registration.{Registration}
use Rattle.state.specs.declared.Object.{Object}

-- a number above 0 fails the test against 0
pub zero_not : (n : ℕ) → 0 < n → eqb n 0 ≡ false
zero_not n h = ne_eqb n 0 (λ e. omega arith)

-- a number that fails the test against 0 is above it
pub not_zero : (n : ℕ) → eqb n 0 ≡ false → 0 < n
not_zero n h = let ne = eqb-false n 0 h in omega arith

-- a page that an object has lies within its run
pub covers_parts : (o : Object) (page : ℕ) → covers o page ≡ true → (o.base ≤ page) × (page < o.base + o.pages)
unfolding covers
covers_parts o page h = (leb-true _ _ (and_left _ _ h), ltb-true _ _ (and_right (leb o.base page) _ h))

-- a page within the run is one of the object's
pub parts_covers : (o : Object) (page : ℕ) → o.base ≤ page → page < o.base + o.pages → covers o page ≡ true
unfolding covers
parts_covers o page a b = and_both (le-leb _ _ a) (lt-ltb _ _ b)

-- of two runs that are apart, one ends before the other
pub apart_parts : (a b : Object) → apart a b ≡ true → 0 < a.pages → 0 < b.pages → (a.base + a.pages ≤ b.base) ⊎ (b.base + b.pages ≤ a.base)
unfolding apart
apart_parts a b h p q = go (leb (a.base + a.pages) b.base) refl
  where
    go : (t : Bool) → leb (a.base + a.pages) b.base ≡ t → (a.base + a.pages ≤ b.base) ⊎ (b.base + b.pages ≤ a.base)
    go true e = inl (leb-true _ _ e)
    go false e = inr (leb-true _ _ (rw (zero_not _ p, zero_not _ q, e) at h))

-- two runs of which one ends before the other are apart
pub parts_apart : (a b : Object) → (0 < a.pages → 0 < b.pages → (a.base + a.pages ≤ b.base) ⊎ (b.base + b.pages ≤ a.base)) → apart a b ≡ true
unfolding apart
parts_apart a b h = go (free a) refl (free b) refl
  where
    go : (x : Bool) → free a ≡ x → (y : Bool) → free b ≡ y → (x || y || leb (a.base + a.pages) b.base || leb (b.base + b.pages) a.base) ≡ true
    go true e y f = refl
    go false e true f = refl
    go false e false f =
        or_unless (leb (a.base + a.pages) b.base) _
        (λ n. let m = leb-false (a.base + a.pages) b.base n in ⊎_elim (λ l. absurd (omega arith)) (λ l. le-leb _ _ l) (h (not_zero _ e) (not_zero _ f)))

-- which of two runs is named first does not matter
pub apart_sym : (a b : Object) → apart a b ≡ true → apart b a ≡ true
apart_sym a b h = parts_apart b a (λ p q. ⊎_elim inr inl (apart_parts a b h q p))

-- two objects that are apart have no page in common
pub apart_covers : (a b : Object) (page : ℕ) → apart a b ≡ true → covers a page ≡ true → covers b page ≡ true → ⊥
apart_covers a b page h p q =
    let r = covers_parts a page p in
    let s = covers_parts b page q in
    ⊎_elim (λ l. omega arith) (λ l. omega arith) (apart_parts a b h (omega arith) (omega arith))

-- the same run of pages
pub record SameRun (a b : Object) : Type 0 where
  pub base : a.base ≡ b.base
  pub pages : a.pages ≡ b.pages

-- the run stays
pub add_run : (o : Object) (word mode : ℕ) → SameRun (add_password o word mode) o
unfolding add_password
add_run o word mode = record { base = refl; pages = refl }

-- the run stays
pub register_run : (o : Object) (g : Registration) → SameRun (with_registration o g) o
register_run o g = record { base = refl; pages = refl }

-- the run stays
pub drop_run : (o : Object) (word : ℕ) → SameRun (drop_password o word) o
unfolding drop_password
drop_run o word =
    cond_ind (λ x. SameRun x o) (eqb word 0) o _ (λ e. record { base = refl; pages = refl })
    (λ e. cond_ind (λ x. SameRun x o) (eqb o.registration.password word) _ _ (λ r. register_run o free_registration)
    (λ r. record { base = refl; pages = refl }))

-- a free object is apart from each
pub apart_free : (a o : Object) → o.pages ≡ 0 → apart a o ≡ true
apart_free a o z = parts_apart a o (λ p q. absurd (omega arith))
