-- Laws of the Bool tests that the definitions are made of.
use Rattle.std.specs.Prelude.{ℕ, ◌<◌, ◌≡◌, refl, Bool, true, false, cond, ◌&&◌, ◌||◌, ◌⊎◌, leb, eqb}
use Rattle.std.proofs.Common.{true≢false, inl, inr, eqb-true}
use Rattle.std.proofs.lemmas.Bool.{lt-leb, eqb-false}

pub and_left : (a b : Bool) → (a && b) ≡ true → a ≡ true
and_left true b h = refl
and_left false b h = h

pub and_right : (a b : Bool) → (a && b) ≡ true → b ≡ true
and_right true b h = h
and_right false b h = cc

pub and_both : {a b : Bool} → a ≡ true → b ≡ true → (a && b) ≡ true
and_both p q = rw (p, q)

pub and_no : (a : Bool) {b : Bool} → b ≡ false → (a && b) ≡ false
and_no true q = q
and_no false q = refl

-- `b` holds wherever `k < n`: the guard of a place that may be unused
pub guarded : (n k : ℕ) (b : Bool) → (leb n k || b) ≡ true → k < n → b ≡ true
guarded n k b h l = rw (lt-leb n k l) at h

-- `b` holds unless `a` does
pub unless : (a b : Bool) → (a || b) ≡ true → a ≡ false → b ≡ true
unless true b h e = absurd (true≢false e)
unless false b h e = h

pub or_unless : (a b : Bool) → (a ≡ false → b ≡ true) → (a || b) ≡ true
or_unless true b h = refl
or_unless false b h = h refl

pub or_left : (a b : Bool) → a ≡ true → (a || b) ≡ true
or_left a b h = rw h

-- neither holds where one of the two does not
pub neither : (a b : Bool) → (a || b) ≡ false → (a ≡ false) × (b ≡ false)
neither true b h = absurd (true≢false h)
neither false b h = (refl, h)

-- a Bool is one or the other
pub flag : (b : Bool) → (b ≡ true) ⊎ (b ≡ false)
flag true = inl refl
flag false = inr refl

-- a choice between the same
pub cond_same : {A : Type 0} (b : Bool) (x : A) → cond b x x ≡ x
cond_same true x = refl
cond_same false x = refl

-- what holds of both choices, each under its test, holds of the choice
pub cond_ind : {A : Type 0} (P : A → Type 0) (b : Bool) (x y : A) → (b ≡ true → P x) → (b ≡ false → P y) → P (cond b x y)
cond_ind P true x y f g = f refl
cond_ind P false x y f g = g refl

-- two numbers are equal or not
pub same_or_not : (k i : ℕ) → (k ≡ i) ⊎ (k ≡ i → ⊥)
same_or_not k i = by_flag (eqb k i) refl
  where
    by_flag : (b : Bool) → eqb k i ≡ b → (k ≡ i) ⊎ (k ≡ i → ⊥)
    by_flag true e = inl (eqb-true k i e)
    by_flag false e = inr (eqb-false k i e)
