-- std's decimal is this crate's.
use Rattle.std.specs.Prelude.{Bool, true, false, ℕ, zero, suc, ◌+◌, ◌/◌, ◌%◌, ◌^◌, ◌<◌, ◌≤◌, ◌≡◌, refl, cond, List, [], ◌∷◌, ◌++◌, ltb, length, take, drop}
use Rattle.std.specs.Fmt as fmt
use Rattle.std.proofs.Common.{◌∙◌, sym, arith, lt-ltb, ltb-true, ltb-false, take-append-drop}
use Rattle.std.proofs.Math.Nat.{pow-succ'}
use Rattle.std.proofs.lemmas.Fmt.{decimal_digit, decimal_step}
use Rattle.text.specs.Decimal.{digits_in, decimal, Places, all_digits}
use Rattle.text.specs.Spelled.{digits_length}
use Rattle.text.specs.Puts.{Put, with_text, put_from}

same_in : (k n : ℕ) → n < 10 ^ suc k → n < 2 ^ 64 → fmt.decimal n ≡ digits_in (suc k) n
unfolding digits_in
same_in zero n h w = decimal_digit n (omega arith) ∙ rw (lt-ltb n 10 (omega arith)) refl
same_in (suc k) n h w = by_size (ltb n 10) refl (λ l. let p = pow-succ' 10 (suc k) in same_in k (n / 10) (omega arith) (omega arith))
  where
    by_size : (b : Bool) → ltb n 10 ≡ b → (10 ≤ n → fmt.decimal (n / 10) ≡ digits_in (suc k) (n / 10))
        → fmt.decimal n ≡ cond b ((48 + n) ∷ []) (digits_in (suc k) (n / 10) ++ ((48 + n % 10) ∷ []))
    by_size true e r = decimal_digit n (ltb-true n 10 e)
    by_size false e r = let l = ltb-false n 10 e in decimal_step n l w ∙ rw (r l) refl

pub same_decimal : (n : ℕ) → n < 2 ^ 64 → fmt.decimal n ≡ decimal n
unfolding decimal
same_decimal n h = same_in 19 n (omega arith) h

pub decimal_places : (n k : ℕ) → n < 2 ^ 64 → Places n k → length (fmt.decimal n) ≡ k
decimal_places n k h p = rw (same_decimal n h, ← all_digits k n p) (digits_length k n)

-- digits that end k bytes behind the place stand at it
pub digits_put : (old new : List ℕ) (at start n k : ℕ) → n < 2 ^ 64 → Places n k → at + k ≤ length old → start + length (fmt.decimal n) ≡ at + k
    → drop start new ≡ fmt.decimal n ++ drop (at + k) old → take start new ≡ take start old → Put old at (decimal n) new (at + k)
digits_put old new at start n k w p h s a b =
    let d = decimal_places n k w p in
    let e : start ≡ at = omega arith in
    let z : at + length (fmt.decimal n) ≡ at + k = omega arith in
    let q : new ≡ with_text old at (fmt.decimal n) = sym (take-append-drop at new) ∙ rw (rw e at b, rw e at a, z) refl in
    rw (q, ← same_decimal n w, ← z) (put_from old at (fmt.decimal n) (omega arith))
