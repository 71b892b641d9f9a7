-- The line by the places of its commas, as the code reads it.
use Rattle.std.specs.Prelude.{ℕ, ◌+◌, ◌-◌, ◌<◌, ◌≤◌, ◌≡◌, refl, false, List, length, take, drop, None}
use Rattle.std.proofs.Math.Option.{Option, none, some}
use native.Mathlib.Omega.{arith}
use Rattle.std.proofs.Common.{drop_of_length-le, lt-ltb, le-ltb}
use Rattle.bounded.specs.Folds.{rest_all}
use Rattle.lines.specs.Number.{Field, Empty, Number, Bad, field_of}
use Rattle.lines.specs.Cut.{comma_of, behind, cut, behind_at}
use Rattle.lines.specs.Arguments.{numbers_of}
use Rattle.lines.specs.Taking.{is_number}
use Rattle.lines.specs.Letters.{Letters, letters_of}
use Rattle.lines.specs.Reading.{unreadable}
use Rattle.lines.specs.Grammar.{line_bytes, with_arguments, line_with, line_of}

domain_bad : (f : Field) (fs : List (List ℕ)) → is_number f ≡ false → unreadable ≡ line_with f fs
domain_bad Empty fs h = refl
domain_bad (Number v) fs h = cc
domain_bad Bad fs h = refl

letters_bad : (d : ℕ) (o : Option (List ℕ)) → unreadable ≡ with_arguments d None o
letters_bad d none = refl
letters_bad d (some vs) = refl

pub too_long : (s : List ℕ) → line_bytes < length s → unreadable ≡ line_of s
unfolding line_of
too_long s h = rw (lt-ltb _ _ h)

module _ (s : List ℕ) (fits : length s ≤ line_bytes) {d : ℕ} (first : d ≡ 0 + comma_of s) where
  line_is : line_of s ≡ line_with (field_of (take d s)) (behind (drop d s))
  unfolding line_of
  line_is =
      let w : comma_of s ≡ d = omega arith in
      rw (le-ltb _ _ fits, cut s, w)

  pub no_domain : is_number (field_of (take d s)) ≡ false → unreadable ≡ line_of s
  no_domain h = rw line_is (domain_bad (field_of (take d s)) (behind (drop d s)) h)

  module _ {v : ℕ} (domain : Number v ≡ field_of (take d s)) where
    pub no_letters : d ≡ length s → unreadable ≡ line_of s
    no_letters h = let l : length s ≤ d = omega arith in rw (line_is, ← domain, drop_of_length-le s l)

    module _ (l : d < length s) {e : ℕ} (end : e ≡ d + 1 + comma_of (drop (d + 1) s)) where
      line_at : line_of s ≡ with_arguments v (letters_of (take (e - (d + 1)) (drop (d + 1) s))) (numbers_of (behind (drop e s)))
      line_at =
          let w : e - (d + 1) ≡ comma_of (drop (d + 1) s) = omega arith in
          rw (line_is, ← domain, behind_at s d l, w, end)

      -- the letters, and the text behind them
      pub by_letters : {l : Letters} → l ≡ letters_of (take (e - (d + 1)) (drop (d + 1) s))
          → with_arguments v l (numbers_of (behind (take (length s - e) (drop e s)))) ≡ line_of s
      by_letters known = rw (line_at, ← known, rest_all)

      pub unknown_letters : None ≡ letters_of (take (e - (d + 1)) (drop (d + 1) s)) → unreadable ≡ line_of s
      unknown_letters h = rw (line_at, ← h) (letters_bad v (numbers_of (behind (drop e s))))
