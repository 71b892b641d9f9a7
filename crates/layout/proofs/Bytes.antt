-- The library's bytes of a number are the codec's.
use Rattle.std.specs.Prelude.{ℕ, ◌+◌, ◌-◌, ◌*◌, ◌<◌, ◌≤◌, ◌≡◌, refl, List, length, get_or, take, drop}
use Rattle.std.proofs.Common.{ap, sym, ◌∙◌, arith, lit<, add-zero, mul-suc, mul-le-mul_left, append_assoc, drop-drop, length-drop, length-take-le, get_or-take, get_or-drop}
use native.Mathlib.Nat.{div-div-eq-div-mul}
use Rattle.std.specs.Int.{to_le_bytes, from_le_bytes, w16, w64}
use Rattle.std.proofs.lemmas.List.Edits.{sets-eq}
use borrow.Rule.Slice.PartMut.{put_mid}
use Rattle.codec.specs.Number.{number, digits, word_sum}
use Rattle.codec.specs.Laid.{lay, lay_sets}
use Rattle.codec.specs.Array.{times}
use Rattle.codec.specs.Loop.{times_mul}

-- a part of a slice, copied over
pub over : (at k : ℕ) (s new ys : List ℕ) → length new ≡ length (take (at + k - at) (drop at s)) → new ≡ ys → at + k ≤ length s
    → put_mid at (at + k - at) s new ≡ lay s at ys
over at k s new ys l e h =
    let z : at + k - at ≡ k = omega arith in
    let m : length ys ≡ k = ap length (sym e) ∙ l ∙ rw z (length-take-le k (drop at s) (rw length-drop (omega arith))) in
    rw (e, z, lay_sets, sets-eq ys s at (omega arith), m, drop-drop, append_assoc)

pub half_bytes : (x : ℕ) → to_le_bytes w16 x ≡ (number 2).put x
unfolding number digits
half_bytes x = refl

pub word_bytes : (x : ℕ) → to_le_bytes w64 x ≡ (number 8).put x
unfolding number digits
word_bytes x = simp div-div-eq-div-mul

-- place i of k parts of n bytes lies within
pub place_fits : (k n i at l : ℕ) → i < k → at + times k n ≤ l → at + n * i + n ≤ l
place_fits k n i at l h f = omega (arith, times_mul k n, mul-le-mul_left n h, mul-suc n i)

-- a word read from a copy of its bytes
pub from_word : (s ws : List ℕ) (at x : ℕ) → ws ≡ take (at + 8 - at) (drop at s) → x ≡ from_le_bytes w64 ws → x ≡ (number 8).get (drop at s)
from_word s ws at x e f =
    let z : at + 8 - at ≡ 8 = omega arith in
    let p : (i : ℕ) → i < 8 → get_or (take 8 (drop at s)) i 0 ≡ get_or s (at + i) 0 = λ i h. get_or-take 8 (drop at s) i 0 h ∙ get_or-drop at s i 0 in
    let p0 : get_or (take 8 (drop at s)) 0 0 ≡ get_or s at 0 = rw add-zero at (p 0 (lit< tt)) in
    rw (word_sum s at, f, e, z)
    (omega (arith, p0, p 1 (lit< tt), p 2 (lit< tt), p 3 (lit< tt), p 4 (lit< tt), p 5 (lit< tt), p 6 (lit< tt), p 7 (lit< tt)))
