-- The digits of a number, put from the last to the first.
use Rattle.std.specs.Prelude.{ℕ, zero, suc, ◌+◌, ◌-◌, ◌/◌, ◌%◌, ◌<◌, ◌≤◌, ◌≡◌, refl, List, [], ◌∷◌, ◌++◌, length, take, drop, set}
use Rattle.std.proofs.Common.{◌∙◌, sym, ap, append_assoc, append-nil, arith, length-set, length-append, take-append-drop, length-take-le, drop_at, take-take}
use Rattle.std.proofs.lemmas.List.{set_split, take-set-le}
use Rattle.text.specs.Decimal.{last_digits}
use Rattle.text.specs.Puts.{with_text, Put, put_from}

pub digits_length : (k n : ℕ) → length (last_digits k n) ≡ k
digits_length zero n = refl
digits_length (suc k) n = omega (arith, digits_length k (n / 10), length-append (last_digits k (n / 10)) ((48 + n % 10) ∷ []))

-- what a loop that puts the k digits of n at `at` knows, when the last of them stand and the first i, those of `rest`, do not
pub record Spelling (old : List ℕ) (at n k : ℕ) (out : List ℕ) (rest i : ℕ) : Type 0 where
  pub bound : i ≤ k
  pub same_length : length out ≡ length old
  pub last : List ℕ
  pub whole : last_digits k n ≡ last_digits i rest ++ last
  pub front : take (at + i) out ≡ take (at + i) old
  pub behind : drop (at + i) out ≡ last ++ drop (at + k) old

module _ {old : List ℕ} {at n k : ℕ} where
  pub spelling_none : Spelling old at n k old n k
  spelling_none = record { bound = omega arith; same_length = refl; last = []; whole = sym (append-nil _); front = refl; behind = refl }

  module _ {out : List ℕ} {rest i : ℕ} (p : Spelling old at n k out rest i) where
    pub spelling_more : at + k ≤ length old → 0 < i → Spelling old at n k (set out (at + (i - 1)) (48 + rest % 10)) (rest / 10) (i - 1)
    spelling_more h z =
        let j : ℕ = i - 1 in
        let d : ℕ = 48 + rest % 10 in
        let e : i ≡ suc j = omega arith in
        let a : suc (at + j) ≡ at + i = omega arith in
        record {
          bound = omega (arith, p.bound);
          same_length = length-set out (at + j) d ∙ p.same_length;
          last = d ∷ p.last;
          whole = p.whole ∙ ap (λ (m : ℕ). last_digits m rest ++ p.last) e ∙ append_assoc (last_digits j (rest / 10)) (d ∷ []) p.last;
          front =
              take-set-le (at + j) out (at + j) d (omega arith)
              ∙ sym (take-take (at + j) (at + i) out (omega arith)) ∙ rw p.front (take-take (at + j) (at + i) old (omega arith));
          behind =
              rw (set_split out (at + j) d (omega (arith, p.bound, p.same_length)), drop_at (take (at + j) out) (d ∷ drop (suc (at + j)) out) (at + j) (length-take-le (at + j) out (omega (arith, p.bound, p.same_length))), a, p.behind);
        }

  module _ {out : List ℕ} {rest i : ℕ} (p : Spelling old at n k out rest i) where
    -- the last two at once
    pub spelling_two : at + k ≤ length old → 2 ≤ i
        → Spelling old at n k (set (set out (at + (i - 2) + 1) (48 + rest % 100 % 10)) (at + (i - 2)) (48 + rest % 100 / 10)) (rest / 100) (i - 2)
    spelling_two h z =
        let j : at + (i - 1) ≡ at + (i - 2) + 1 = omega arith in
        let u : i - 1 - 1 ≡ i - 2 = omega arith in
        let one : rest % 10 ≡ rest % 100 % 10 = omega arith in
        let ten : rest / 10 % 10 ≡ rest % 100 / 10 = omega arith in
        let left : rest / 10 / 10 ≡ rest / 100 = omega arith in
        rw (j, u, one, ten, left) at (spelling_more (spelling_more p h (omega arith)) h (omega arith))

    -- one that is left
    pub spelling_one : at + k ≤ length old → i ≡ 1 → Spelling old at n k (set out at (48 + rest % 10)) (rest / 10) 0
    spelling_one h e =
        let j : at + (i - 1) ≡ at = omega arith in
        let u : i - 1 ≡ 0 = omega arith in
        rw (j, u) at (spelling_more p h (omega arith))

    pub spelling_all : at + k ≤ length old → i ≤ 0 → Put old at (last_digits k n) out (at + k)
    spelling_all h z =
        let z0 : i ≡ 0 = omega arith in
        let w : at + i ≡ at = omega arith in
        let front : take at out ≡ take at old = rw w at p.front in
        let behind : drop at out ≡ p.last ++ drop (at + k) old = rw w at p.behind in
        let whole : last_digits k n ≡ p.last = p.whole ∙ ap (λ (m : ℕ). last_digits m rest ++ p.last) z0 in
        let is : out ≡ with_text old at (last_digits k n) = sym (take-append-drop at out) ∙ rw (front, behind, digits_length k n, whole) in
        let put : Put old at (last_digits k n) out (at + length (last_digits k n)) = rw is (put_from old at (last_digits k n) (omega arith)) in
        rw (digits_length k n) at put
