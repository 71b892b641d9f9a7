-- A line of the output, by document 01, "The call program": a line's number, its answer, and the value or the fields of a done GT.
use Rattle.std.specs.Prelude.{ℕ, ◌+◌, ◌*◌, ◌<◌, ◌≤◌, ◌≡◌, refl, Bool, true, false, cond, leb, ltb, length, take}
use Rattle.std.proofs.Common.{◌∙◌, sym, arith, take_all, le-leb, ltb-true}
use mathlib.Core.List.{List, [], ◌∷◌, ◌++◌, foldl}
use Rattle.std.proofs.lemmas.Bool.{lt-leb}
use Rattle.text.specs.Decimal.{decimal}
use Rattle.text.specs.Puts.{with_text, Put, put_is}

-- a text that goes on by a comma and a number
abbrev pub with_field : List ℕ → ℕ → List ℕ
with_field t v = t ++ (44 ∷ decimal v)

-- numbers, each with a comma before it
unfoldable pub fields_text : List ℕ → List ℕ
fields_text vs = foldl with_field [] vs

-- line,answer,value,.. and the line feed
unfoldable pub answer_line : ℕ → ℕ → List ℕ → List ℕ
answer_line line answer values = decimal line ++ (44 ∷ decimal answer) ++ fields_text values ++ (10 ∷ [])

-- a count of at most eleven fields
abbrev pub shown_count : ℕ → ℕ
shown_count count = cond (ltb 11 count) 11 count

pub shown_all : (count : ℕ) (vs : List ℕ) → length vs ≡ 11 → take (shown_count count) vs ≡ take count vs
shown_all count vs h = by_flag (ltb 11 count) refl
  where
    by_flag : (b : Bool) → ltb 11 count ≡ b → take (cond b 11 count) vs ≡ take count vs
    by_flag true e = let l = ltb-true 11 count e in take_all 11 vs (omega arith) ∙ sym (take_all count vs (omega arith))
    by_flag false e = refl

-- there is room for the longest line with n values, 20 digits to a number
abbrev pub has_room : List ℕ → ℕ → ℕ → Bool
has_room out at n = leb (at + (42 + 21 * n)) (length out)

-- the buffer after a line with these values is put at `at`, and where the line ends; without room nothing changes
abbrev pub printed : List ℕ → ℕ → ℕ → ℕ → List ℕ → List ℕ
printed out at line answer vs = cond (has_room out at (length vs)) (with_text out at (answer_line line answer vs)) out

abbrev pub printed_end : List ℕ → ℕ → ℕ → ℕ → List ℕ → ℕ
printed_end out at line answer vs = cond (has_room out at (length vs)) (at + length (answer_line line answer vs)) at

-- a text in n bytes with a line behind it, where the longest line with as many values has room; else as it was
abbrev pub with_line : ℕ → List ℕ → ℕ → ℕ → List ℕ → List ℕ
with_line n t line answer vs = cond (leb (length t + (42 + 21 * length vs)) n) (t ++ answer_line line answer vs) t

module _ (out : List ℕ) (at line answer : ℕ) (vs : List ℕ) where
  pub no_room : length out < at + (42 + 21 * length vs) → (out ≡ printed out at line answer vs) × (at ≡ printed_end out at line answer vs)
  no_room h = (rw (lt-leb _ _ h), rw (lt-leb _ _ h))

  pub room : {new : List ℕ} {end : ℕ} → at + (42 + 21 * length vs) ≤ length out → Put out at (answer_line line answer vs) new end
      → (new ≡ printed out at line answer vs) × (end ≡ printed_end out at line answer vs)
  room h p = (rw (le-leb _ _ h) (put_is p), rw (le-leb _ _ h) p.size)
