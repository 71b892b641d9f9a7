-- A field is a number exactly where it is the decimal digits of one below 2^64.
use Rattle.std.specs.Prelude.{ℕ, zero, suc, ◌+◌, ◌-◌, ◌*◌, ◌/◌, ◌%◌, ◌^◌, ◌<◌, ◌≡◌, refl, Bool, true, false, cond, ◌&&◌, not, ltb, eqb}
use Rattle.std.proofs.Common.{◌∙◌, ap, arith, lt-ltb, le-ltb, ltb-true, ltb-false}
use mathlib.Core.List.{List, [], ◌∷◌, ◌++◌, foldl, foldl-append, append_assoc, append-nil}
use Rattle.std.proofs.Math.Nat.{pow-succ'}
use Rattle.bounded.specs.Bools.{and_left, and_right}
use Rattle.lines.specs.Number.{Empty, Number, Bad, field_of, after, is_digit, grown}
use Rattle.lines.specs.Bytes.{digit_low, digit_high, bad_stays, first_digit, next_digit}
use Rattle.text.specs.Decimal.{digits_in, decimal, decimal_small}

digit_back : (d : ℕ) → 48 + d - 48 ≡ d
digit_back d = omega arith

reads_in : (k n : ℕ) → n < 10 ^ suc k → n < 2 ^ 64 → field_of (digits_in (suc k) n) ≡ Number n
unfolding field_of digits_in
reads_in zero n h w = rw (lt-ltb n 10 (omega arith)) (first_digit (48 + n) (omega arith) (omega arith) ∙ ap Number (digit_back n))
reads_in (suc k) n h w = go (ltb n 10) refl (reads_in k)
  where
    go : (t : Bool) → ltb n 10 ≡ t → ((m : ℕ) → m < 10 ^ suc k → m < 2 ^ 64 → foldl after Empty (digits_in (suc k) m) ≡ Number m)
        → foldl after Empty (cond t ((48 + n) ∷ []) (digits_in (suc k) (n / 10) ++ ((48 + n % 10) ∷ []))) ≡ Number n
    go true e ih = let l = ltb-true n 10 e in first_digit (48 + n) (omega arith) (omega arith) ∙ ap Number (digit_back n)
    go false e ih =
        let l = ltb-false n 10 e in
        let p = pow-succ' 10 (suc k) in
        let b : ℕ = 48 + n % 10 in
        let q : n / 10 * 10 + (b - 48) ≡ n = omega arith in
        foldl-append after Empty (digits_in (suc k) (n / 10)) ((48 + n % 10) ∷ [])
        ∙ rw (ih (n / 10) (omega arith) (omega arith)) (next_digit (n / 10) b (omega arith) (omega arith) (omega arith) (omega arith)) ∙ ap Number q

-- the decimal digits of a number below 2^64 read back as that number
pub reads_back : (n : ℕ) → n < 2 ^ 64 → field_of (decimal n) ≡ Number n
unfolding decimal
reads_back n h = reads_in 19 n (omega arith) h

-- room for one digit more changes nothing
digits_more : (k n : ℕ) → n < 10 ^ suc k → digits_in (suc k) n ≡ digits_in (suc (suc k)) n
unfolding digits_in
digits_more zero n h = rw (lt-ltb n 10 (omega arith))
digits_more (suc k) n h =
    let p = pow-succ' 10 (suc k) in
    ap (λ (l : List ℕ). cond (ltb n 10) ((48 + n) ∷ []) (l ++ ((48 + n % 10) ∷ []))) (digits_more k (n / 10) (omega arith))

decimal_more : (v d : ℕ) → 0 < v → d < 10 → v * 10 + d < 2 ^ 64 → decimal (v * 10 + d) ≡ decimal v ++ ((48 + d) ∷ [])
unfolding decimal digits_in
decimal_more v d z h l =
    let q : (v * 10 + d) / 10 ≡ v = omega arith in
    let r : (v * 10 + d) % 10 ≡ d = omega arith in
    rw (le-ltb (v * 10 + d) 10 (omega arith), q, r, digits_more 18 v (omega arith))

-- digits that stand, then bytes that read to a number: all of them are the digits of that number
abbrev Digits : List ℕ → ℕ → Type 0
Digits s n = (s ≡ decimal n) × (n < 2 ^ 64)

not_zero : (v : ℕ) → not (eqb v 0) ≡ true → 0 < v
not_zero zero h = let z : ◌≡◌ {A = ℕ} 0 1 = cc in absurd (omega arith)
not_zero (suc v) h = omega arith

goes_on : (s p : List ℕ) (v n : ℕ) → Digits p v → foldl after (Number v) s ≡ Number n → Digits (p ++ s) n
goes_on [] p v n w h = let e : v ≡ n = cc in (append-nil p ∙ w.0 ∙ ap decimal e, omega (arith, w.1))
goes_on (b ∷ s) p v n w h = go (is_digit b) refl h (goes_on s)
  where
    go2 : (t : Bool) → is_digit b ≡ true → (not (eqb v 0) && ltb (v * 10 + (b - 48)) (2 ^ 64)) ≡ t
        → foldl after (cond t (Number (v * 10 + (b - 48))) Bad) s ≡ Number n
        → ((q : List ℕ) (u m : ℕ) → Digits q u → foldl after (Number u) s ≡ Number m → Digits (q ++ s) m) → Digits (p ++ (b ∷ s)) n
    go2 false d e k ih = let bad = bad_stays s in let z : ◌≡◌ {A = ℕ} 0 1 = cc in absurd (omega arith)
    go2 true d e k ih =
        let lo = digit_low b d in
        let hi = digit_high b d in
        let small = ltb-true (v * 10 + (b - 48)) (2 ^ 64) (and_right (not (eqb v 0)) (ltb (v * 10 + (b - 48)) (2 ^ 64)) e) in
        let pos = not_zero v (and_left (not (eqb v 0)) (ltb (v * 10 + (b - 48)) (2 ^ 64)) e) in
        let same : 48 + (b - 48) ≡ b = omega arith in
        let more = decimal_more v (b - 48) pos (omega arith) small in
        let here : p ++ (b ∷ []) ≡ decimal (v * 10 + (b - 48)) = rw (more, same, w.0) in
        rw (append_assoc p (b ∷ []) s) at (ih (p ++ (b ∷ [])) (v * 10 + (b - 48)) n (here, small) k)

    go : (t : Bool) → is_digit b ≡ t → foldl after (cond t (grown v b) Bad) s ≡ Number n
        → ((q : List ℕ) (u m : ℕ) → Digits q u → foldl after (Number u) s ≡ Number m → Digits (q ++ s) m) → Digits (p ++ (b ∷ s)) n
    go false d k ih = let bad = bad_stays s in let z : ◌≡◌ {A = ℕ} 0 1 = cc in absurd (omega arith)
    go true d k ih = go2 (not (eqb v 0) && ltb (v * 10 + (b - 48)) (2 ^ 64)) d refl k ih

-- a field that reads as a number is its decimal digits, and the number is below 2^64
pub only_digits : (s : List ℕ) (n : ℕ) → field_of s ≡ Number n → (s ≡ decimal n) × (n < 2 ^ 64)
unfolding field_of
only_digits [] n h = let z : ◌≡◌ {A = ℕ} 0 1 = cc in absurd (omega arith)
only_digits (b ∷ s) n h = go (is_digit b) refl h
  where
    go : (t : Bool) → is_digit b ≡ t → foldl after (cond t (Number (b - 48)) Bad) s ≡ Number n → Digits (b ∷ s) n
    go false d k = let bad = bad_stays s in let z : ◌≡◌ {A = ℕ} 0 1 = cc in absurd (omega arith)
    go true d k =
        let lo = digit_low b d in
        let hi = digit_high b d in
        let same : 48 + (b - 48) ≡ b = omega arith in
        let here : b ∷ [] ≡ decimal (b - 48) = rw (decimal_small (b - 48) (omega arith), same) in
        goes_on s (b ∷ []) (b - 48) n (here, omega arith) k
