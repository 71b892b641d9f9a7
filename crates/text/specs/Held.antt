-- A text that is kept at the start of n bytes.
use Rattle.std.specs.Prelude.{ℕ, ◌+◌, ◌-◌, ◌*◌, ◌≤◌, ◌≡◌, refl, Bool, true, false, cond, leb, List, ◌++◌, length, take, drop, replicate}
use Rattle.std.proofs.Common.{arith, ap, sym, ◌∙◌, length-append, length-take-le, length-drop, take-append-drop, leb-true, le-leb}
use Rattle.std.proofs.lemmas.List.{drop-drop, drop-replicate}
use Rattle.text.specs.Puts.{Put, with_text, put_from}
use Rattle.text.specs.Answer.{answer_line, printed, printed_end, with_line}
use Rattle.text.specs.Size.{answer_length}

-- the first `count` of n bytes are the text, and the others are zeros
pub record IsHeld (n : ℕ) (bytes : List ℕ) (count : ℕ) : Type 0 where
  pub size : length bytes ≡ n
  pub within : count ≤ n
  pub behind : drop count bytes ≡ replicate (n - count) 0

-- the text gives the fields back: its length, and its bytes with zeros behind them
pub held_count : (n : ℕ) (bytes : List ℕ) (count : ℕ) → IsHeld n bytes count → length (take count bytes) ≡ count
held_count n bytes count h = length-take-le count bytes (omega (arith, h.size, h.within))

pub held_again : (n : ℕ) (bytes : List ℕ) (count : ℕ) → IsHeld n bytes count
    → take count bytes ++ replicate (n - length (take count bytes)) 0 ≡ bytes
held_again n bytes count h =
    rw (held_count n bytes count h, ← h.behind) (take-append-drop count bytes)

-- a buffer keeps its length where the text ends in it
put_length : {old s new : List ℕ} {at end : ℕ} → Put old at s new end → end ≤ length old → length new ≡ length old
put_length {old} {s} {new} {at} {end} p h =
    omega (
      arith,
      p.size,
      ap length (take-append-drop end new),
      ap length p.text,
      ap length p.rest,
      length-append (take end new) (drop end new),
      length-append (take at old) s,
      length-take-le at old (omega (arith, p.size, h)),
      length-drop end old,
    )

-- another text behind it
pub held_put : {n count end : ℕ} {bytes s new : List ℕ} → IsHeld n bytes count → Put bytes count s new end → end ≤ n
    → IsHeld n new end
held_put {n} {count} {end} {bytes} {s} {new} h p e =
    record {
      size = put_length p (omega (arith, h.size, e)) ∙ h.size;
      within = e;
      behind =
          let rest : n - count - length s ≡ n - end = omega (arith, p.size) in
          p.rest ∙ ap (λ i. drop i bytes) p.size ∙ sym (drop-drop (length s) count bytes)
          ∙ ap (λ l. drop (length s) l) h.behind ∙ drop-replicate (length s) (n - count) 0 ∙ ap (λ i. replicate {A = ℕ} i 0) rest;
    }

-- bytes behind it, where they have room
pub bytes_held : (n : ℕ) (bytes : List ℕ) (count : ℕ) (s : List ℕ) {new : List ℕ} → IsHeld n bytes count → count + length s ≤ n
    → new ≡ take count bytes ++ (s ++ drop (length s) (drop count bytes))
    → IsHeld n new (count + length s)
    × (take (count + length s) new ≡ cond (leb (length (take count bytes) + length s) n) (take count bytes ++ s) (take count bytes))
bytes_held n bytes count s h r e =
    let p = put_from bytes count s (omega (arith, h.size)) in
    rw (e, drop-drop (length s) count bytes) (held_put h p r, rw (held_count n bytes count h, le-leb (count + length s) n r) p.text)

-- a line behind it, where the longest has room
pub line_held : (n : ℕ) (bytes : List ℕ) (count line answer : ℕ) (vs : List ℕ) {new : List ℕ} {end : ℕ} → IsHeld n bytes count
    → new ≡ printed bytes count line answer vs → end ≡ printed_end bytes count line answer vs
    → IsHeld n new end × (take end new ≡ with_line n (take count bytes) line answer vs)
line_held n bytes count line answer vs {new} {end} h a b =
    rw (a, b, held_count n bytes count h, h.size) (by_flag (leb (count + (42 + 21 * length vs)) n) refl)
  where
    by_flag : (r : Bool) → leb (count + (42 + 21 * length vs)) n ≡ r
        → IsHeld n (cond r (with_text bytes count (answer_line line answer vs)) bytes) (cond r (count + length (answer_line line answer vs)) count)
        × (take (cond r (count + length (answer_line line answer vs)) count) (cond r (with_text bytes count (answer_line line answer vs)) bytes)
        ≡ cond r (take count bytes ++ answer_line line answer vs) (take count bytes))
    by_flag true e =
        let p = put_from bytes count (answer_line line answer vs) (omega (arith, h.size, h.within)) in
        let fits = leb-true (count + (42 + 21 * length vs)) n e in
        (held_put h p (omega (arith, fits, answer_length line answer vs)), p.text)
    by_flag false e = (h, refl)
