-- The program holds the first bytes of a line: enough to tell that it is too long.
use Rattle.std.specs.Prelude.{ℕ, ◌+◌, ◌-◌, ◌<◌, ◌≤◌, min, ◌≡◌, refl, Bool, ltb, eqb, length, take, set}
use Rattle.std.proofs.Common.{◌∙◌, sym, arith, add-one, length-append, length-take, take_all, take-suc-set, length-take-le}
use Rattle.std.proofs.Common.{lt-ltb, le-ltb, ltb-true, ltb-false, eq-eqb, ne_eqb, eqb-true}
use Rattle.std.proofs.Math.Path.{ap}
use Rattle.std.proofs.Math.Bool.{true, false, cond}
use mathlib.Core.List.{List, [], ◌∷◌, ◌++◌, foldl, append_assoc, append-nil}
use Rattle.std.proofs.Math.Nat.{min_comm}
use Rattle.std.proofs.Math.Seq.{take-append-add}
use Rattle.std.proofs.lemmas.List.{take-append-le}
use Rattle.std.proofs.lemmas.Bool.{eqb-false}
use Rattle.lines.specs.Grammar.{line_bytes, line_of}
use Rattle.replies.specs.Reply.{Carrying, reply}
use Rattle.stream.specs.Run.{Progress, line_done, with_line, on_byte_by, extended, last_line}
use Rattle.stream.specs.Feed.{held_bytes, held_byte, on_held, cut}
use Rattle.stream.specs.Room.{take_clip}

-- a line reads as the bytes that are held
pub cut_reads : (s : List ℕ) → line_of (take held_bytes s) ≡ line_of s
unfolding line_of
cut_reads s = go (ltb (length s) (held_bytes + 1)) refl
  where
    go : (b : Bool) → ltb (length s) (held_bytes + 1) ≡ b → line_of (take held_bytes s) ≡ line_of s
    go true e = let l : length s < held_bytes + 1 = ltb-true _ _ e in ap line_of (take_all held_bytes s (omega arith))
    go false e =
        let l : held_bytes + 1 ≤ length s = ltb-false _ _ e in
        let n : line_bytes < length (take held_bytes s) = omega (arith, length-take held_bytes s) in
        let m : line_bytes < length s = omega arith in
        rw (lt-ltb line_bytes (length (take held_bytes s)) n, lt-ltb line_bytes (length s) m)

-- holding is cutting
pub held_cut : (s : List ℕ) (b : ℕ) → held_byte (take held_bytes s) b ≡ take held_bytes (extended s b)
held_cut s b = go (ltb (length s) held_bytes) refl
  where
    go : (t : Bool) → ltb (length s) held_bytes ≡ t → held_byte (take held_bytes s) b ≡ take held_bytes (extended s b)
    go true e =
        let l : length s < held_bytes = ltb-true _ _ e in
        let k : length (s ++ (b ∷ [])) ≤ held_bytes = omega (arith, length-append s (b ∷ [])) in
        rw (take_all held_bytes s (omega arith), take_all held_bytes (s ++ (b ∷ [])) k, lt-ltb (length s) held_bytes l)
    go false e =
        let l : held_bytes ≤ length s = ltb-false _ _ e in
        let k : length (take held_bytes s) ≡ held_bytes = length-take-le held_bytes s l in
        rw (k, take-append-le held_bytes s (b ∷ []) l)

held_fold : (s a : List ℕ) → foldl held_byte (take held_bytes a) s ≡ take held_bytes (a ++ s)
held_fold [] a = ap (take held_bytes) (sym (append-nil a))
held_fold (b ∷ s) a = ap (λ (z : List ℕ). foldl held_byte z s) (held_cut a b) ∙ held_fold s (extended a b) ∙ ap (take held_bytes) (append_assoc a (b ∷ []) s)

-- a line read where it lies reads as one that is held
pub whole_reads : (s : List ℕ) → line_of s ≡ line_of (foldl held_byte [] s)
whole_reads s = sym (cut_reads s) ∙ ap line_of (sym (held_fold s []))

module _ (carry : Carrying) where
  pub cut_byte : (r : Progress) (b : ℕ) → on_held carry (cut r) b ≡ cut (on_byte_by carry extended r b)
  unfolding on_byte_by
  cut_byte r b = go (eqb b 10)
    where
      go : (t : Bool)
          → cond t (line_done (cut r) (reply carry r.world (line_of (take held_bytes r.line)))) (with_line r (held_byte (take held_bytes r.line) b))
          ≡ cut (cond t (line_done r (reply carry r.world (line_of r.line))) (with_line r (extended r.line b)))
      go true = rw (cut_reads r.line)
      go false = ap (with_line r) (held_cut r.line b)

  pub cut_run : (s : List ℕ) (r : Progress) → foldl (on_held carry) (cut r) s ≡ cut (foldl (on_byte_by carry extended) r s)
  cut_run [] r = refl
  cut_run (b ∷ s) r = ap (λ (z : Progress). foldl (on_held carry) z s) (cut_byte r b) ∙ cut_run s (on_byte_by carry extended r b)

-- whether a line has begun is seen in what is held
cut_empty : (s : List ℕ) → eqb (length (take held_bytes s)) 0 ≡ eqb (length s) 0
cut_empty s = go (eqb (length s) 0) refl
  where
    go : (t : Bool) → eqb (length s) 0 ≡ t → eqb (length (take held_bytes s)) 0 ≡ t
    go true e =
        let z : length s ≡ 0 = eqb-true _ _ e in
        let n : length (take held_bytes s) ≡ 0 = omega (arith, length-take held_bytes s) in
        eq-eqb _ _ n
    go false e =
        let z : length s ≡ 0 → ⊥ = eqb-false _ _ e in
        ne_eqb (length (take held_bytes s)) 0 (λ n. z (omega (arith, n, length-take held_bytes s)))

pub cut_last : (r : Progress) → last_line (cut r) ≡ last_line r
unfolding last_line
cut_last r = rw (cut_empty r.line)

-- how the hold takes a byte
pub held_put : (line : List ℕ) (n b : ℕ) → n < held_bytes → length line ≡ held_bytes → take (n + 1) (set line n b) ≡ held_byte (take n line) b
held_put line n b h l =
    let w : length (take n line) ≡ n = length-take-le n line (omega arith) in
    let z : n < length line = omega arith in
    rw (w, lt-ltb n held_bytes h, add-one, take-suc-set line n b z)

pub held_full : (line : List ℕ) (n b : ℕ) → n ≤ held_bytes → held_bytes ≤ n → length line ≡ held_bytes → take n line ≡ held_byte (take n line) b
held_full line n b h g l =
    let w : length (take n line) ≡ n = length-take-le n line (omega arith) in
    rw (w, le-ltb n held_bytes g)

-- and how it takes bytes: as many as it has room for
pub held_more : (line s : List ℕ) (n k : ℕ) → n ≤ held_bytes → length line ≡ held_bytes → k ≡ min (length s) (held_bytes - n)
    → take n line ++ take k s ≡ foldl held_byte (take n line) s
held_more line s n k h l e =
    let w : length (take n line) ≡ n = length-take-le n line (omega arith) in
    let a : take held_bytes (take n line) ≡ take n line = take_all held_bytes (take n line) (omega arith) in
    let m : held_bytes ≡ length (take n line) + (held_bytes - n) = omega arith in
    let t : take k s ≡ take (held_bytes - n) s = rw (e, min_comm (length s) (held_bytes - n)) (take_clip s (held_bytes - n)) in
    let f : foldl held_byte (take n line) s ≡ take held_bytes (take n line ++ s) = rw a at (held_fold s (take n line)) in
    ap (λ (z : List ℕ). take n line ++ z) t
    ∙ sym (take-append-add (take n line) s (held_bytes - n))
    ∙ ap (λ (z : ℕ). take z (take n line ++ s)) (sym m)
    ∙ sym f
