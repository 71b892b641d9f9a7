-- What one byte makes of a field, and the fields that begin with a zero.
use Rattle.std.specs.Prelude.{ℕ, ◌+◌, ◌-◌, ◌*◌, ◌^◌, ◌<◌, ◌≤◌, ◌≡◌, refl, Bool, true, false, cond, leb, length, get_or}
use Rattle.std.proofs.Common.{sym, ap, arith, lt-ltb, le-leb, leb-true, ne_eqb}
use mathlib.Core.List.{List, [], ◌∷◌, foldl}
use Rattle.std.proofs.lemmas.Bool.{lt-leb}
use Rattle.bounded.specs.Bools.{and_left, and_right}
use Rattle.lines.specs.Number.{Field, Empty, Number, Bad, is_digit, with_digit, after, field_of}

pub digit_low : (b : ℕ) → is_digit b ≡ true → 48 ≤ b
digit_low b h = leb-true 48 b (and_left (leb 48 b) (leb b 57) h)

pub digit_high : (b : ℕ) → is_digit b ≡ true → b ≤ 57
digit_high b h = leb-true b 57 (and_right (leb 48 b) (leb b 57) h)

pub below_digits : (b : ℕ) → b < 48 → is_digit b ≡ false
below_digits b h = simp (lt-leb 48 b h)

pub above_digits : (b : ℕ) → 57 < b → is_digit b ≡ false
above_digits b h = simp (le-leb 48 b (omega arith), lt-leb b 57 h)

pub first_digit : (b : ℕ) → 48 ≤ b → b ≤ 57 → after Empty b ≡ Number (b - 48)
first_digit b l h = simp (le-leb 48 b l, le-leb b 57 h)

pub next_digit : (v b : ℕ) → 48 ≤ b → b ≤ 57 → 0 < v → v * 10 + (b - 48) < 2 ^ 64 → after (Number v) b ≡ Number (v * 10 + (b - 48))
next_digit v b l h p f =
    let nz : v ≡ 0 → ⊥ = λ w. omega arith in
    simp (le-leb 48 b l, le-leb b 57 h, ne_eqb v 0 nz, lt-ltb (v * 10 + (b - 48)) (2 ^ 64) f)

pub not_digit : (f : Field) (b : ℕ) → is_digit b ≡ false → after f b ≡ Bad
not_digit f b e = ap (λ (t : Bool). cond t (with_digit f b) Bad) e

-- a bad field stays bad
pub bad_stays : (s : List ℕ) → foldl after Bad s ≡ Bad
bad_stays [] = refl
bad_stays (b ∷ s) = go (is_digit b) (bad_stays s)
  where
    go : (t : Bool) → foldl after Bad s ≡ Bad → foldl after (cond t Bad Bad) s ≡ Bad
    go true h = h
    go false h = h

pub empty_field : (s : List ℕ) → length s ≡ 0 → Empty ≡ field_of s
unfolding field_of
empty_field [] h = refl
empty_field (a ∷ s) h = absurd (omega arith)

pub zero_field : (s : List ℕ) → length s ≡ 1 → get_or s 0 0 ≡ 48 → Number 0 ≡ field_of s
unfolding field_of
zero_field [] h e = absurd (omega arith)
zero_field (a ∷ []) h e = rw e
zero_field (a ∷ b ∷ s) h e = absurd (omega arith)

-- no digit goes on after a leading zero
pub zero_alone : (s : List ℕ) → 1 < length s → get_or s 0 0 ≡ 48 → Bad ≡ field_of s
unfolding field_of
zero_alone [] h e = absurd (omega arith)
zero_alone (a ∷ []) h e = absurd (omega arith)
zero_alone (a ∷ b ∷ s) h e = rw e (go (is_digit b))
  where
    go : (t : Bool) → Bad ≡ foldl after (cond t Bad Bad) s
    go true = sym (bad_stays s)
    go false = sym (bad_stays s)
