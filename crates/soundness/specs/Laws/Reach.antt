-- How far a row of places is filled: one test of all places past a count, where the definitions test each.
use Rattle.std.specs.Prelude.{ℕ, suc, ◌/◌, ◌≡◌, refl, Bool, true, false, not, cond, ◌&&◌, ◌||◌, leb, ltb, eqb}
use Rattle.std.proofs.Common.{ap, sym, ◌∙◌, arith, leb-true, leb-false, le-leb, ltb-true, ltb-false, lt-ltb, le-ltb, eqb-true}
use Rattle.std.proofs.Math.Bool.{and-true, and-false}
use Rattle.std.specs.Int.Bits.{bit_or, or_add_and}
use Rattle.std.proofs.lemmas.Nat.{and_le_l, and_le_r}
use Rattle.std.proofs.lemmas.Bool.{lt-leb}
use Rattle.bounded.specs.Bools.{and_left}
use Rattle.bounded.specs.Every.{below, below_all, below_same}
use Rattle.state.specs.Places.{slot_at, entry_at}
use Rattle.state.specs.Extent.{covers}
use Rattle.soundness.specs.Sound.{blank, entry_ok, slot_ok}
use Rattle.state.specs.declared.Capability.{Capability}
use Rattle.state.specs.declared.Object.{Object}
use Rattle.state.specs.declared.Frame.{Frame}

-- a test of an unused place or one of a place in use, by `&` and `|`
pub choice : (a b c : Bool) → (a && b || not a && c) ≡ cond a b c
choice true true c = refl
choice true false c = refl
choice false b c = refl

pub where_unused : (a b : Bool) → (not a || b) ≡ cond a b true
where_unused true b = refl
where_unused false b = refl

-- a capability is all zero exactly where its two numbers together have no bit
or_none : (a b : ℕ) → bit_or a b ≡ 0 → (a ≡ 0) × (b ≡ 0)
or_none a b h =
    let s = or_add_and a b in
    let l = and_le_l a b in
    let m = and_le_r a b in
    (omega arith, omega arith)

pub blank_or : (c : Capability) → bit_or c.page c.password ≡ 0 → blank c ≡ true
unfolding blank
blank_or c h = let (p, w) = or_none c.page c.password h in rw (p, w)

pub blank_no : (c : Capability) → (bit_or c.page c.password ≡ 0 → ⊥) → blank c ≡ false
unfolding blank
blank_no c h = go (eqb c.page 0) (eqb c.password 0) refl refl
  where
    go : (a b : Bool) → eqb c.page 0 ≡ a → eqb c.password 0 ≡ b → (a && b) ≡ false
    go true true e f = let p : c.page ≡ 0 = eqb-true _ 0 e in let w : c.password ≡ 0 = eqb-true _ 0 f in absurd (h (rw (p, w)))
    go true false e f = refl
    go false b e f = refl

-- the number of the first of m places from which on all are zero
unfoldable pub reach : (ℕ → Bool) → ℕ → ℕ
reach zero ℕ.zero = 0
reach zero (suc k) = cond (zero k) (reach zero k) (suc k)

-- it is at most n where each place from n on is zero
reach_within : (zero : ℕ → Bool) (m n : ℕ) → leb (reach zero m) n ≡ below m (λ k. ltb k n || zero k)
unfolding reach below
reach_within zero ℕ.zero n = le-leb 0 n (omega arith)
reach_within zero (suc m) n = go (zero m) (ltb m n) refl (reach_within zero m n)
  where
    go : (z b : Bool) → ltb m n ≡ b → leb (reach zero m) n ≡ below m (λ k. ltb k n || zero k)
        → leb (cond z (reach zero m) (suc m)) n ≡ (below m (λ k. ltb k n || zero k) && (b || z))
    go true true e ih = ih ∙ sym (and-true _)
    go true false e ih = ih ∙ sym (and-true _)
    go false true e ih =
        let l = ltb-true m n e in
        le-leb (suc m) n l ∙ sym (and-true (below m (λ k. ltb k n || zero k)) ∙ below_all m (λ k. ltb k n || zero k) (λ k p. rw (lt-ltb k n (omega arith))))
    go false false e ih = lt-leb (suc m) n (omega (arith, ltb-false m n e)) ∙ sym (and-false (below m (λ k. ltb k n || zero k)))

-- two tests of all places are one
pub below_and : (n : ℕ) (p q : ℕ → Bool) → (below n p && below n q) ≡ below n (λ k. p k && q k)
unfolding below
below_and ℕ.zero p q = refl
below_and (suc n) p q = go (below n p) (below n q) (p n) (q n) ∙ rw (below_and n p q)
  where
    go : (a b c d : Bool) → ((a && c) && (b && d)) ≡ ((a && b) && (c && d))
    go true true c d = refl
    go true false true d = refl
    go true false false d = refl
    go false b c d = refl

-- the slots of a frame: each names a page below 128, and none past the count is filled
pub slots_reach : (f : Frame) → (below 8 (λ k. ltb (slot_at f k).page 128) && leb (reach (λ k. blank (slot_at f k)) 8) f.count) ≡ below 8 (slot_ok f)
unfolding slot_ok blank
slots_reach f =
    ap (λ b. below 8 (λ k. ltb (slot_at f k).page 128) && b) (reach_within (λ k. blank (slot_at f k)) 8 f.count)
    ∙ (below_and 8 (λ k. ltb (slot_at f k).page 128) (λ k. ltb k f.count || blank (slot_at f k))
    ∙ below_same 8 _ (slot_ok f) (λ k l. go (slot_at f k) f.count k (leb f.count k) refl))
  where
    zero : (c : Capability) (b : Bool) → blank c ≡ b → (ltb c.page 128 && b) ≡ b
    zero c true e = let p : c.page ≡ 0 = eqb-true _ 0 (and_left (eqb c.page 0) _ e) in rw p
    zero c false e = and-false (ltb c.page 128)

    go : (c : Capability) (n k : ℕ) (b : Bool) → leb n k ≡ b → (ltb c.page 128 && (ltb k n || blank c)) ≡ cond b (blank c) (ltb c.page 128)
    go c n k true e = rw (le-ltb k n (leb-true n k e)) (zero c (blank c) refl)
    go c n k false e = rw (lt-ltb k n (leb-false n k e)) (and-true _)

-- the entries of a registration: each in use is in the object, and none past the count is filled
pub entries_reach : (o : Object)
    → (below 4 (λ k. leb o.registration.count k || covers o (entry_at o k / 64)) && leb (reach (λ k. eqb (entry_at o k) 0) 4) o.registration.count)
    ≡ below 4 (entry_ok o)
unfolding entry_ok
entries_reach o =
    ap (λ b. below 4 (λ k. leb o.registration.count k || covers o (entry_at o k / 64)) && b) (reach_within (λ k. eqb (entry_at o k) 0) 4 o.registration.count)
    ∙ (below_and 4 (λ k. leb o.registration.count k || covers o (entry_at o k / 64)) (λ k. ltb k o.registration.count || eqb (entry_at o k) 0)
    ∙ below_same 4 _ (entry_ok o) (λ k l. go o.registration.count k (covers o (entry_at o k / 64)) (eqb (entry_at o k) 0) (leb o.registration.count k) refl))
  where
    go : (n k : ℕ) (x z b : Bool) → leb n k ≡ b → ((b || x) && (ltb k n || z)) ≡ cond b z x
    go n k x z true e = rw (le-ltb k n (leb-true n k e))
    go n k x z false e = rw (lt-ltb k n (leb-false n k e)) (and-true _)
