-- A field without a leading zero: its number is that of its digits, as long as it stays below 2^64, which it does with up to 19 of them.
use Prim.Native.Nat.{ℕ, zero, suc, ◌+◌, ◌-◌, ◌*◌, ◌^◌, ◌<◌, ◌≤◌}
use Rattle.std.specs.Prelude.{◌≡◌, refl, Bool, true, false, cond, ◌&&◌, ltb, length, drop, get_or, Option, Some, None}
use Rattle.std.proofs.Common.{◌∙◌, ap, add-one, drop-cons, ltb-true, ltb-false, le-leb, le-ltb, ne_eqb}
use Rattle.std.proofs.lemmas.Option.{none-some, same_Some}
use Rattle.std.proofs.Math.Path.{sym}
use mathlib.Core.List.{List, [], ◌∷◌, foldl}
use Rattle.std.proofs.Math.Nat.{pow-succ', pow-le-pow_right}
use native.Mathlib.Omega.{arith}
use Rattle.bounded.specs.Bools.{and_left, and_right}
use Rattle.bounded.specs.Folds.{Folding, folding_none, folding_more, folding_all}
use Rattle.lines.specs.Number.{Field, Empty, Number, Bad, is_digit, after, field_of, numbered}
use Rattle.lines.specs.Bytes.{digit_low, digit_high, first_digit, next_digit, not_digit, bad_stays}

-- the value of digits that goes on by the digit b
abbrev pub with_value : ℕ → ℕ → ℕ
with_value v b = v * 10 + (b - 48)

-- the same, where the byte is a digit and the number stays below 2^64
abbrev pub with_value_within : ℕ → ℕ → Option ℕ
with_value_within v b = cond (is_digit b && ltb (with_value v b) (2 ^ 64)) (Some (with_value v b)) None

-- a field after i digits with the value v
abbrev pub so_far : ℕ → ℕ → Field
so_far zero v = Empty
so_far (suc i) v = Number v

-- what a loop over the digits of s knows at `i`
pub record Digits (s : List ℕ) (i v : ℕ) : Type 0 where
  pub fold : Folding after Empty s i (so_far i v)
  pub start : i ≡ 0 → v ≡ 0
  pub lead : 0 < i → 0 < v

pub digits_none : {s : List ℕ} → Digits s 0 0
digits_none = record { fold = folding_none; start = λ h. refl; lead = λ h. absurd (omega arith) }

-- a byte that goes on: it is a digit, and the number stays below 2^64
goes_on : (v b w : ℕ) → with_value_within v b ≡ Some w → (is_digit b ≡ true) × (with_value v b < 2 ^ 64) × (with_value v b ≡ w)
goes_on v b w h = go (is_digit b) refl (ltb (with_value v b) (2 ^ 64)) refl h
  where
    go : (t : Bool) → is_digit b ≡ t → (u : Bool) → ltb (with_value v b) (2 ^ 64) ≡ u → cond (t && u) (Some (with_value v b)) None ≡ Some w
        → (is_digit b ≡ true) × (with_value v b < 2 ^ 64) × (with_value v b ≡ w)
    go true d true l k = (d, ltb-true (with_value v b) (2 ^ 64) l, same_Some (with_value v b) w k)
    go true d false l k = absurd (none-some w k)
    go false d u l k = absurd (none-some w k)

-- a byte that does not, behind i digits
stops : (i v b : ℕ) → (i ≡ 0 → v ≡ 0) → (0 < i → 0 < v) → with_value_within v b ≡ None → after (so_far i v) b ≡ Bad
stops i v b z p h = go (is_digit b) refl (ltb (with_value v b) (2 ^ 64)) refl h
  where
    too_large : (i : ℕ) → (i ≡ 0 → v ≡ 0) → (0 < i → 0 < v) → 48 ≤ b → b ≤ 57 → 2 ^ 64 ≤ with_value v b → after (so_far i v) b ≡ Bad
    too_large zero z p lo hi l = let e : v ≡ 0 = z refl in absurd (omega arith)
    too_large (suc i) z p lo hi l =
        let w : v ≡ 0 → ⊥ = λ e. omega (arith, p (omega arith)) in
        simp (le-leb 48 b lo, le-leb b 57 hi, ne_eqb v 0 w, le-ltb (with_value v b) (2 ^ 64) l)

    go : (t : Bool) → is_digit b ≡ t → (u : Bool) → ltb (with_value v b) (2 ^ 64) ≡ u → cond (t && u) (Some (with_value v b)) None ≡ None
        → after (so_far i v) b ≡ Bad
    go true d true l k = absurd (none-some (with_value v b) (sym k))
    go true d false l k = too_large i z p (digit_low b d) (digit_high b d) (ltb-false (with_value v b) (2 ^ 64) l)
    go false d u l k = not_digit (so_far i v) b d

more_digits : (i v b : ℕ) → (i ≡ 0 → v ≡ 0) → (0 < i → 0 < v) → is_digit b ≡ true → with_value v b < 2 ^ 64 → Number (with_value v b) ≡ after (so_far i v) b
more_digits zero v b z p d l =
    let e : with_value v b ≡ b - 48 = omega (arith, z refl) in
    rw e (sym (first_digit b (digit_low b d) (digit_high b d)))
more_digits (suc i) v b z p d l = sym (next_digit v b (digit_low b d) (digit_high b d) (p (omega arith)) l)

no_zero : (s : List ℕ) (i v : ℕ) → (get_or s 0 0 ≡ 48 → ⊥) → 48 ≤ get_or s i 0 → (0 < i → 0 < v) → 0 < with_value v (get_or s i 0)
no_zero s zero v n lo p = omega arith
no_zero s (suc i) v n lo p = let pos = p (omega arith) in omega arith

module _ {s : List ℕ} {i v : ℕ} (k : Digits s i v) where
  pub digits_more : (w : ℕ) → (get_or s 0 0 ≡ 48 → ⊥) → i < length s → with_value_within v (get_or s i 0) ≡ Some w → Digits s (i + 1) w
  digits_more w n h e =
      let b : ℕ = get_or s i 0 in
      let (d, l, same) = goes_on v b w e in
      let more : so_far (i + 1) w ≡ Number (with_value v b) = rw (add-one i, same) in
      record {
        fold = rw more (folding_more k.fold h (more_digits i v b k.start k.lead d l));
        start = λ z. absurd (omega arith);
        lead = λ z. rw (← same) (no_zero s i v n (digit_low b d) k.lead);
      }

  pub digits_bad : i < length s → with_value_within v (get_or s i 0) ≡ None → numbered s None ≡ field_of s
  unfolding field_of
  digits_bad h e =
      let bad = stops i v (get_or s i 0) k.start k.lead e in
      no_number s (omega arith)
      ∙ sym (k.fold.rest ∙ rw (drop-cons s i 0) (ap (λ (f : Field). foldl after f (drop (suc i) s)) bad) ∙ bad_stays (drop (suc i) s))
    where
      no_number : (s : List ℕ) → 0 < length s → numbered s None ≡ Bad
      no_number [] h = absurd (omega arith)
      no_number (b ∷ s) h = refl

  pub digits_all : 0 < length s → length s ≤ i → Number v ≡ field_of s
  unfolding field_of
  digits_all z h =
      let e : i ≡ suc (i - 1) = omega arith in
      let w : so_far i v ≡ Number v = rw e in
      sym w ∙ folding_all k.fold h

-- the value of digits
unfoldable pub value_of : List ℕ → ℕ
value_of s = foldl with_value 0 s

unfoldable pub all_digits : List ℕ → Bool
all_digits [] = true
all_digits (b ∷ s) = is_digit b && all_digits s

value_from : (s : List ℕ) (i v : ℕ) → suc i + length s ≤ 19 → v < 10 ^ suc i → 0 < v → all_digits s ≡ true
    → foldl after (Number v) s ≡ Number (foldl with_value v s)
unfolding all_digits
value_from [] i v l h p d = refl
value_from (b ∷ s) i v l h p d =
    let lo = digit_low b (and_left (is_digit b) (all_digits s) d) in
    let hi = digit_high b (and_left (is_digit b) (all_digits s) d) in
    let a : 10 ^ suc i ≤ 10 ^ 18 = pow-le-pow_right (omega arith) {j = 18} (omega arith) in
    let e = pow-succ' 10 (suc i) in
    ap (λ (f : Field). foldl after f s) (next_digit v b lo hi p (omega arith))
    ∙ value_from s (suc i) (with_value v b) (omega arith) (omega arith) (omega arith) (and_right (is_digit b) (all_digits s) d)

-- up to 19 digits without a leading zero read as their value
pub short_value : (s : List ℕ) → 0 < length s → length s ≤ 19 → (get_or s 0 0 ≡ 48 → ⊥) → all_digits s ≡ true → field_of s ≡ Number (value_of s)
unfolding field_of value_of all_digits
short_value [] z l n d = absurd (omega arith)
short_value (b ∷ s) z l n d =
    let lo = digit_low b (and_left (is_digit b) (all_digits s) d) in
    let hi = digit_high b (and_left (is_digit b) (all_digits s) d) in
    let e : with_value 0 b ≡ b - 48 = omega arith in
    ap (λ (f : Field). foldl after f s) (first_digit b lo hi ∙ ap Number (sym e))
    ∙ value_from s 0 (with_value 0 b) (omega arith) (omega arith) (omega arith) (and_right (is_digit b) (all_digits s) d)
