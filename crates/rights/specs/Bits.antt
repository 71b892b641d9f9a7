-- The bits of a mode one by one: what the masks of Modes.antt say of each right.
use Rattle.std.specs.Prelude.{ℕ, suc, ◌+◌, ◌*◌, ◌/◌, ◌%◌, ◌^◌, ◌<◌, ◌≤◌, min, Bool, true, not, ◌&&◌, ◌||◌, ◌≡◌, refl, ◌↔◌, ◌⊎◌}
use Rattle.std.proofs.Common.{pow-suc, arith, ap, ◌∙◌, sym, inl, inr, ⊎_elim, eqb-true, eq-eqb, ne_eqb}
use Rattle.std.specs.Int.Bits.{bit_and, and_step, and_zero_r}
use Rattle.std.proofs.lemmas.Nat.Bits.{and_high}
use Rattle.std.proofs.Math.Arith.{bin_ind}
use Rattle.std.proofs.lemmas.Bool.{eqb-false, not-true}
use Rattle.bounded.specs.Bools.{flag, and_left, and_right, and_both, unless, or_unless}
use Rattle.rights.specs.Modes.{holds_all, holds_none}

-- bit `k` of a number: 0 R, 1 W, 2 X, 3 D, 4 P, 7 NOT
unfoldable pub bit : ℕ → ℕ → ℕ
bit ℕ.zero m = m % 2
bit (suc k) m = bit k (m / 2)

-- the mode `m` holds some right of the set `w`
pub record Shares (m w : ℕ) : Type 0 where
  pub right : ℕ
  pub wanted : bit right w ≡ 1
  pub held : bit right m ≡ 1

-- a bit is 0 or 1
bit_lt : (k m : ℕ) → bit k m < 2
unfolding bit
bit_lt ℕ.zero m = omega arith
bit_lt (suc k) m = bit_lt k (m / 2)

zero_or_one : (k m : ℕ) → (bit k m ≡ 0) ⊎ (bit k m ≡ 1)
zero_or_one k m = by_value (bit k m) (bit_lt k m)
  where
    by_value : (b : ℕ) → b < 2 → (b ≡ 0) ⊎ (b ≡ 1)
    by_value ℕ.zero l = inl refl
    by_value (suc ℕ.zero) l = inr refl
    by_value (suc (suc b)) l = absurd (omega arith)

bit_zero : (k : ℕ) → bit k 0 ≡ 0
unfolding bit
bit_zero ℕ.zero = refl
bit_zero (suc k) = bit_zero k

-- a bit is in both of two numbers: the lesser of their bits
bit_and_lem : (k a b : ℕ) → bit k (bit_and a b) ≡ min (bit k a) (bit k b)
unfolding bit
bit_and_lem ℕ.zero a b = rw (and_step a b) (omega arith)
bit_and_lem (suc k) a b =
    let e : bit_and a b / 2 ≡ bit_and (a / 2) (b / 2) = rw (and_step a b) (omega arith) in
    rw e (bit_and_lem k (a / 2) (b / 2))

-- two numbers with the same bits are equal
bit_ext : (a b : ℕ) → ((k : ℕ) → bit k a ≡ bit k b) → a ≡ b
unfolding bit
bit_ext a b h = go (a + b) a b (omega arith) h
  where
    go : (n a b : ℕ) → a + b ≤ n → ((k : ℕ) → bit k a ≡ bit k b) → a ≡ b
    go ℕ.zero a b l h = omega arith
    go (suc n) a b l h =
        let p : a % 2 ≡ b % 2 = h 0 in
        let q : a / 2 ≡ b / 2 = go n (a / 2) (b / 2) (omega arith) (λ k. h (suc k)) in
        omega arith

-- a number above 0 has a bit that is 1
some_bit : (n : ℕ) → (n ≡ 0 → ⊥) → (k : ℕ) × (bit k n ≡ 1)
unfolding bit
some_bit = bin_ind (λ (n : ℕ). (n ≡ 0 → ⊥) → (k : ℕ) × (bit k n ≡ 1)) (λ h. absurd (h refl)) step
  where
    step : (n : ℕ) → ((n / 2 ≡ 0 → ⊥) → (k : ℕ) × (bit k (n / 2) ≡ 1)) → (n ≡ 0 → ⊥) → (k : ℕ) × (bit k n ≡ 1)
    step n ih h = ⊎_elim (λ z. let r = ih (omega arith) in (suc r.0, r.1)) (λ o. (0, o)) (zero_or_one 0 n)

-- the mode holds all of the set: each right of the set is in the mode
pub all_exactly : (m w : ℕ) → holds_all m w ≡ true ↔ ((k : ℕ) → bit k w ≡ 1 → bit k m ≡ 1)
all_exactly m w = (each, λ h. eq-eqb _ _ (bit_ext _ _ (λ k. bit_and_lem k m w ∙ same_bit h k (zero_or_one k w))))
  where
    each : holds_all m w ≡ true → (k : ℕ) → bit k w ≡ 1 → bit k m ≡ 1
    each h k e =
        let a : bit k (bit_and m w) ≡ bit k w = ap (bit k) (eqb-true _ _ h) in
        omega (arith, bit_and_lem k m w, bit_lt k m)

    same_bit : ((k : ℕ) → bit k w ≡ 1 → bit k m ≡ 1) → (k : ℕ) → (bit k w ≡ 0) ⊎ (bit k w ≡ 1) → min (bit k m) (bit k w) ≡ bit k w
    same_bit h k (inl z) = omega arith
    same_bit h k (inr o) = omega (arith, h k o)

-- where the mode holds none of the set, no bit is in both
both_zero : (k m w : ℕ) → bit_and m w ≡ 0 → min (bit k m) (bit k w) ≡ 0
both_zero k m w e = sym (bit_and_lem k m w) ∙ ap (bit k) e ∙ bit_zero k

-- it holds any of the set: some right of the set is in the mode
pub any_exactly : (m w : ℕ) → not (holds_none m w) ≡ true ↔ Shares m w
any_exactly m w = (
  λ h. found (some_bit (bit_and m w) (eqb-false _ _ (not-true _ h))),
  λ s. ap not (ne_eqb (bit_and m w) 0 (λ e. omega (arith, both_zero s.right m w e))),
)
  where
    found : (k : ℕ) × (bit k (bit_and m w) ≡ 1) → Shares m w
    found r =
        let k : ℕ = r.0 in
        let e : 1 ≡ min (bit k m) (bit k w) = sym r.1 ∙ bit_and_lem k m w in
        record { right = k; wanted = omega (arith, bit_lt k w); held = omega (arith, bit_lt k m) }

-- it holds none of the set: no right of the set is in the mode
pub none_exactly : (m w : ℕ) → holds_none m w ≡ true ↔ ((k : ℕ) → bit k w ≡ 1 → bit k m ≡ 0)
none_exactly m w = (
  λ h k e. omega (arith, both_zero k m w (eqb-true _ _ h)),
  λ h. ⊎_elim (λ t. t) (λ f. absurd (not_any h ((any_exactly m w).0 (ap not f)))) (flag (holds_none m w)),
)
  where
    not_any : ((k : ℕ) → bit k w ≡ 1 → bit k m ≡ 0) → Shares m w → ⊥
    not_any h s = omega (arith, h s.right s.wanted)

-- the set of bit `k` alone: the mode holds none of it exactly where its bit `k` is 0
one_bit : (k m : ℕ) → bit_and m (2 ^ k) ≡ 0 ↔ bit k m ≡ 0
unfolding bit
one_bit ℕ.zero m =
    let e : bit_and m 1 ≡ m % 2 = and_step m 1 ∙ rw (and_zero_r (m / 2)) (omega arith) in
    (λ h. omega arith, λ h. omega arith)
one_bit (suc k) m =
    let p : 2 ^ suc k ≡ 2 ^ k * 2 = pow-suc 2 k in
    let h : 2 ^ suc k / 2 ≡ 2 ^ k = omega arith in
    let l : 2 ^ suc k % 2 ≡ 0 = omega arith in
    let e : bit_and m (2 ^ suc k) ≡ bit_and (m / 2) (2 ^ k) * 2 = and_step m (2 ^ suc k) ∙ rw (h, l) (omega arith) in
    (λ z. (one_bit k (m / 2)).0 (omega arith), λ z. omega (arith, (one_bit k (m / 2)).1 z))

pub clear_exactly : (k m : ℕ) → holds_none m (2 ^ k) ≡ true ↔ bit k m ≡ 0
clear_exactly k m = (λ h. (one_bit k m).0 (eqb-true _ _ h), λ z. eq-eqb _ _ ((one_bit k m).1 z))

pub set_exactly : (k m : ℕ) → not (holds_none m (2 ^ k)) ≡ true ↔ bit k m ≡ 1
set_exactly k m = (
  λ h. ⊎_elim (λ z. absurd (eqb-false _ _ (not-true _ h) ((one_bit k m).1 z))) (λ o. o) (zero_or_one k m),
  λ o. ap not (ne_eqb (bit_and m (2 ^ k)) 0 (λ e. omega (arith, (one_bit k m).0 e))),
)

-- the two bits of the mask 96
pub spare_exactly : (m : ℕ) → holds_none m 96 ≡ true ↔ (bit 5 m ≡ 0) × (bit 6 m ≡ 0)
unfolding bit
spare_exactly m =
    (λ h. ((none_exactly m 96).0 h 5 refl, (none_exactly m 96).0 h 6 refl), λ z. eq-eqb (bit_and m 96) 0 (omega (arith, and_high m 2 5)))

-- bit `j` only beside bit `k`
pub beside_exactly : (j k m : ℕ) → (holds_none m (2 ^ j) || not (holds_none m (2 ^ k))) ≡ true ↔ (bit j m ≡ 1 → bit k m ≡ 1)
beside_exactly j k m = (
  λ h p. (set_exactly k m).0 (unless (holds_none m (2 ^ j)) _ h (not-true _ ((set_exactly j m).1 p))),
  λ f. or_unless (holds_none m (2 ^ j)) _ (λ e. (set_exactly k m).1 (f ((set_exactly j m).0 (ap not e)))),
)

-- two tests both pass exactly where what each says holds
pub and_exactly : {a b : Bool} {A B : Type 0} → (a ≡ true ↔ A) → (b ≡ true ↔ B) → (a && b) ≡ true ↔ A × B
and_exactly {a} {b} p q = (λ h. (p.0 (and_left a b h), q.0 (and_right a b h)), λ r. and_both (p.1 r.0) (q.1 r.1))
