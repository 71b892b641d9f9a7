-- What is written as a line reads as that line.
use Rattle.std.specs.Prelude.{ℕ, ◌^◌, ◌<◌, ◌≤◌, ◌≡◌, refl, true, cond, List, [], ◌∷◌, map, eqb, ltb, length}
use Rattle.std.proofs.Common.{◌∙◌, le-ltb, ltb-true, eq-eqb, ne_eqb}
use Rattle.std.proofs.Math.Option.{some}
use Rattle.bounded.specs.Bools.{and_left, and_right, and_both}
use Rattle.calls.specs.Boot.{boot_numbers}
use Rattle.lines.specs.Arguments.{numbers_of}
use Rattle.lines.specs.Letters.{mnemonic_of, letters_of}
use Rattle.lines.specs.Reading.{unreadable, boot_by}
use Rattle.lines.specs.Grammar.{line_bytes, with_arguments, line_of}
use Rattle.lines.specs.Joined.{plain, all_plain, split_fields}
use Rattle.text.specs.Decimal.{decimal}
use Rattle.readback.specs.Back.{reads_back}
use Rattle.readback.specs.Lines.{digits_plain, decimals_plain, words, written, boot_letters}

numbers_back : (vs : List ℕ) → words vs ≡ true → numbers_of (map decimal vs) ≡ some vs
unfolding numbers_of words
numbers_back [] h = refl
numbers_back (v ∷ vs) h =
    rw (reads_back v (ltb-true v (2 ^ 64) (and_left (ltb v (2 ^ 64)) (words vs) h)), numbers_back vs (and_right (ltb v (2 ^ 64)) (words vs) h))

-- a written line that is not too long reads as the call of its letters with its arguments
pub written_read : (d : ℕ) (letters vs : List ℕ) → d < 2 ^ 64 → plain letters ≡ true → words vs ≡ true → length (written d letters vs) ≤ line_bytes
    → line_of (written d letters vs) ≡ with_arguments d (letters_of letters) (some vs)
unfolding line_of all_plain decimal
written_read d letters vs h p w l =
    rw (le-ltb line_bytes (length (written d letters vs)) l, split_fields (letters ∷ map decimal vs) (decimal d) (digits_plain 20 d) (and_both p (decimals_plain vs)), reads_back d h, numbers_back vs w)

-- a boot written with its numbers reads as that boot, and one with another count of numbers is unreadable
module _ (d : ℕ) (plan : List ℕ) (h : d < 2 ^ 64) (w : words plan ≡ true) (l : length (written d boot_letters plan) ≤ line_bytes) where
  boot_read : line_of (written d boot_letters plan) ≡ cond (eqb (length plan) boot_numbers) (boot_by d plan) unreadable
  unfolding plain mnemonic_of
  boot_read = written_read d boot_letters plan h refl w l

  pub boot_back : length plan ≡ boot_numbers → line_of (written d boot_letters plan) ≡ boot_by d plan
  boot_back n = boot_read ∙ rw (eq-eqb _ _ n)

  pub boot_miscounted : (length plan ≡ boot_numbers → ⊥) → line_of (written d boot_letters plan) ≡ unreadable
  boot_miscounted n = boot_read ∙ rw (ne_eqb _ _ n)
