-- Text that is put into a buffer at a place.
use Rattle.std.specs.Prelude.{ℕ, ◌+◌, ◌<◌, ◌≤◌, ◌≡◌, refl, List, [], ◌∷◌, ◌++◌, length, take, drop, set}
use Rattle.std.proofs.Common.{◌∙◌, sym, append_assoc, append-nil, arith, add-one, length-append, length-take, take-append-drop, take-suc-set, take_at, drop_at, drop-set-lt, drop-drop}

-- the buffer with the text s in it from `at` on; all else as it was
abbrev pub with_text : List ℕ → ℕ → List ℕ → List ℕ
with_text old at s = take at old ++ (s ++ drop (at + length s) old)

-- of a buffer, the first `at` bytes stay, s stands behind them up to `end`, and the rest stays
pub record Put (old : List ℕ) (at : ℕ) (s : List ℕ) (new : List ℕ) (end : ℕ) : Type 0 where
  pub size : end ≡ at + length s
  pub text : take end new ≡ take at old ++ s
  pub rest : drop end new ≡ drop end old

pub put_is : {old : List ℕ} {at : ℕ} {s : List ℕ} {new : List ℕ} {end : ℕ} → Put old at s new end → new ≡ with_text old at s
put_is {old} {at} {s} {new} {end} p =
    sym (take-append-drop end new) ∙ rw (p.text, p.rest, p.size) (append_assoc (take at old) s (drop (at + length s) old))

pub put_from : (old : List ℕ) (at : ℕ) (s : List ℕ) → at ≤ length old → Put old at s (with_text old at s) (at + length s)
put_from old at s h =
    let e : length (take at old ++ s) ≡ at + length s = omega (arith, length-append (take at old) s, length-take at old) in
    let w = append_assoc (take at old) s (drop (at + length s) old) in
    record {
      size = refl;
      text = rw (← w) (take_at (take at old ++ s) (drop (at + length s) old) (at + length s) e);
      rest = rw (← w) (drop_at (take at old ++ s) (drop (at + length s) old) (at + length s) e);
    }

pub put_none : (old : List ℕ) (at : ℕ) → Put old at [] old at
put_none old at = record { size = omega arith; text = sym (append-nil _); rest = refl }

pub put_byte : {old : List ℕ} {at b : ℕ} → at < length old → Put old at (b ∷ []) (set old at b) (at + 1)
put_byte {old} {at} {b} h =
    record { size = refl; text = rw (add-one at) (take-suc-set old at b h); rest = drop-set-lt (at + 1) old at b (omega arith) }

pub then : {a b c : List ℕ} {i j k : ℕ} {s t : List ℕ} → Put a i s b j → Put b j t c k → Put a i (s ++ t) c k
then {a} {b} {c} {i} {j} {k} {s} {t} p q =
    record {
      size = let e = length-append s t in let x = p.size in let y = q.size in omega arith;
      text = q.text ∙ rw p.text (append_assoc (take i a) s t);
      rest = q.rest ∙ rw (q.size, ← drop-drop (length t) j b, ← drop-drop (length t) j a, p.rest);
    }
