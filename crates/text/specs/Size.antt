-- How long a line gets, and what a buffer holds up to its end.
use Rattle.std.specs.Prelude.{ℕ, zero, suc, ◌+◌, ◌*◌, ◌/◌, ◌%◌, ◌≤◌, ◌≡◌, Bool, true, false, cond, ltb, length, take}
use mathlib.Core.List.{List, [], ◌∷◌, ◌++◌, foldl}
use Rattle.std.proofs.Common.{arith, length-append}
use Rattle.text.specs.Decimal.{digits_in, decimal}
use Rattle.text.specs.Puts.{with_text, put_from}
use Rattle.text.specs.Answer.{with_field, fields_text, answer_line}

digits_length : (k n : ℕ) → length (digits_in k n) ≤ k
unfolding digits_in
digits_length zero n = omega arith
digits_length (suc k) n = go (ltb n 10) (digits_length k (n / 10))
  where
    go : (t : Bool) → length (digits_in k (n / 10)) ≤ k → length (cond t ((48 + n) ∷ []) (digits_in k (n / 10) ++ ((48 + n % 10) ∷ []))) ≤ suc k
    go true h = omega arith
    go false h = omega (arith, length-append (digits_in k (n / 10)) ((48 + n % 10) ∷ []))

pub decimal_length : (n : ℕ) → length (decimal n) ≤ 20
unfolding decimal
decimal_length n = digits_length 20 n

fields_from : (vs t : List ℕ) → length (foldl with_field t vs) ≤ length t + 21 * length vs
fields_from [] t = omega arith
fields_from (v ∷ vs) t =
    let h = fields_from vs (with_field t v) in
    omega (arith, decimal_length v, length-append t (44 ∷ decimal v))

-- a line with n values has at most 42 + 21 × n bytes
pub answer_length : (line answer : ℕ) (vs : List ℕ) → length (answer_line line answer vs) ≤ 42 + 21 * length vs
unfolding answer_line fields_text
answer_length line answer vs =
    let a : List ℕ = decimal line in
    let b : List ℕ = 44 ∷ decimal answer in
    let c : List ℕ = foldl with_field [] vs in
    omega (arith, decimal_length line, decimal_length answer, fields_from vs [], length-append a b, length-append (a ++ b) c, length-append (a ++ b ++ c) (10 ∷ []))

-- up to the end of the text: what was before it, and the text
pub up_to_end : (old : List ℕ) (at : ℕ) (s : List ℕ) → at ≤ length old → take (at + length s) (with_text old at s) ≡ take at old ++ s
up_to_end old at s h = (put_from old at s h).text
