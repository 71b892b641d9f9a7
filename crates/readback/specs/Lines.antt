-- The readable lines, by what they are made of: the digits of a domain, two letters and the digits of the arguments, with commas between.
-- That they read as what was written: ../proofs/Lines.antt.
use Rattle.std.specs.Prelude.{ℕ, zero, suc, ◌+◌, ◌/◌, ◌%◌, ◌^◌, ◌<◌, ◌≤◌, ◌≡◌, Bool, true, false, cond, not, ◌&&◌, List, [], ◌∷◌, ◌++◌, map, ◌⊎◌, ltb, eqb, length}
use Rattle.std.proofs.Math.Path.{refl}
use Rattle.std.proofs.Common.{◌∙◌, sym, inl, inr, arith, lt-ltb, ltb-false, ne_eqb}
use Rattle.std.proofs.Math.Option.{Option, none, some}
use Rattle.bounded.specs.Bools.{and_left, and_right, and_both}
use Rattle.lines.specs.Number.{Field, Empty, Number, Bad, field_of}
use Rattle.lines.specs.Split.{split}
use Rattle.lines.specs.Arguments.{in_front, numbers_of}
use Rattle.lines.specs.Letters.{letters_of}
use Rattle.lines.specs.Reading.{unreadable}
use Rattle.lines.specs.Grammar.{line_bytes, with_arguments, line_of}
use Rattle.lines.specs.Joined.{behind_commas, split_joined, plain, all_plain}
use Rattle.text.specs.Decimal.{digits_in, decimal}
use Rattle.readback.specs.Back.{only_digits}

plain_both : (a b : List ℕ) → plain a ≡ true → plain b ≡ true → plain (a ++ b) ≡ true
unfolding plain
plain_both [] b h k = k
plain_both (x ∷ a) b h k =
    and_both (and_left (not (eqb x 44)) (plain a) h) (plain_both a b (and_right (not (eqb x 44)) (plain a) h) k)

digit_plain : (d : ℕ) → plain ((48 + d) ∷ []) ≡ true
unfolding plain
digit_plain d = let n : 48 + d ≡ 44 → ⊥ = λ e. omega arith in rw (ne_eqb (48 + d) 44 n)

pub digits_plain : (k n : ℕ) → plain (digits_in k n) ≡ true
unfolding digits_in plain
digits_plain zero n = refl
digits_plain (suc k) n = go (ltb n 10) (digits_plain k (n / 10))
  where
    go : (t : Bool) → plain (digits_in k (n / 10)) ≡ true → plain (cond t ((48 + n) ∷ []) (digits_in k (n / 10) ++ ((48 + n % 10) ∷ []))) ≡ true
    go true h = digit_plain n
    go false h = plain_both (digits_in k (n / 10)) ((48 + n % 10) ∷ []) h (digit_plain (n % 10))

pub decimals_plain : (vs : List ℕ) → all_plain (map decimal vs) ≡ true
unfolding all_plain decimal
decimals_plain [] = refl
decimals_plain (v ∷ vs) = and_both (digits_plain 20 v) (decimals_plain vs)

-- numbers below 2^64
unfoldable pub words : List ℕ → Bool
words [] = true
words (v ∷ vs) = ltb v (2 ^ 64) && words vs

-- the text of a line
abbrev pub written : ℕ → List ℕ → List ℕ → List ℕ
written d letters vs = decimal d ++ behind_commas (letters ∷ map decimal vs)

-- BT
abbrev pub boot_letters : List ℕ
boot_letters = 66 ∷ 84 ∷ []

-- a line that is written so
pub record Written (s : List ℕ) : Type 0 where
  pub domain : ℕ
  pub letters : List ℕ
  pub arguments : List ℕ
  pub short : length s ≤ line_bytes
  pub small : domain < 2 ^ 64
  pub words_all : words arguments ≡ true
  pub text : s ≡ written domain letters arguments
  pub reads : line_of s ≡ with_arguments domain (letters_of letters) (some arguments)

numbers_only : (fs : List (List ℕ)) (vs : List ℕ) → numbers_of fs ≡ some vs → (fs ≡ map decimal vs) × (words vs ≡ true)
unfolding numbers_of words
numbers_only [] [] h = (refl, refl)
numbers_only [] (v ∷ vs) h = let z : ◌≡◌ {A = ℕ} 0 1 = cc in absurd (omega arith)
numbers_only (f ∷ fs) vs h = go (field_of f) refl (numbers_of fs) refl vs h (numbers_only fs)
  where
    go : (r : Field) → field_of f ≡ r → (o : Option (List ℕ)) → numbers_of fs ≡ o → (ws : List ℕ) → in_front r o ≡ some ws
        → ((us : List ℕ) → numbers_of fs ≡ some us → (fs ≡ map decimal us) × (words us ≡ true)) → ((f ∷ fs) ≡ map decimal ws) × (words ws ≡ true)
    go Empty e o q ws k ih = let z : ◌≡◌ {A = ℕ} 0 1 = cc in absurd (omega arith)
    go Bad e o q ws k ih = let z : ◌≡◌ {A = ℕ} 0 1 = cc in absurd (omega arith)
    go (Number v) e none q ws k ih = let z : ◌≡◌ {A = ℕ} 0 1 = cc in absurd (omega arith)
    go (Number v) e (some us) q ws k ih =
        let a = only_digits f v e in
        let b = ih us q in
        let same : ws ≡ v ∷ us = cc in
        rw same (rw (a.0, b.0), rw (lt-ltb v (2 ^ 64) a.1) b.1)

-- every line is unreadable or written so
pub readable_written : (s : List ℕ) → (line_of s ≡ unreadable) ⊎ Written s
unfolding line_of behind_commas
readable_written s = by_length (ltb line_bytes (length s)) refl
  where
    by_numbers : ltb line_bytes (length s) ≡ false → (d : ℕ) → field_of (split s).first ≡ Number d → (l : List ℕ) (fs : List (List ℕ)) → (split s).others ≡ l ∷ fs
        → (o : Option (List ℕ)) → numbers_of fs ≡ o → (line_of s ≡ unreadable) ⊎ Written s
    by_numbers h d e l fs q none k = inl (rw (h, e, q, k))
    by_numbers h d e l fs q (some vs) k =
        let a = only_digits (split s).first d e in
        let b = numbers_only fs vs k in
        inr
        (record {
          domain = d;
          letters = l;
          arguments = vs;
          short = ltb-false line_bytes (length s) h;
          small = a.1;
          words_all = b.1;
          text = sym (split_joined s) ∙ rw (q, a.0, b.0);
          reads = rw (h, e, q, k);
        })

    by_fields : ltb line_bytes (length s) ≡ false → (f : Field) → field_of (split s).first ≡ f → (fs : List (List ℕ)) → (split s).others ≡ fs
        → (line_of s ≡ unreadable) ⊎ Written s
    by_fields h Empty e fs q = inl (rw (h, e))
    by_fields h Bad e fs q = inl (rw (h, e))
    by_fields h (Number d) e [] q = inl (rw (h, e, q))
    by_fields h (Number d) e (l ∷ fs) q = by_numbers h d e l fs q (numbers_of fs) refl

    by_length : (t : Bool) → ltb line_bytes (length s) ≡ t → (line_of s ≡ unreadable) ⊎ Written s
    by_length true h = inl (rw h)
    by_length false h = by_fields h (field_of (split s).first) refl (split s).others refl
