-- Bytes that are laid into a buffer, one run behind the other.
use Rattle.std.specs.Prelude.{ℕ, suc, ◌+◌, ◌≡◌, refl, List, [], ◌∷◌, ◌++◌, length, set}
use Rattle.std.proofs.Common.{◌∙◌, append-nil, arith, add-one, length-set, drop_of_length-le}
use Rattle.std.proofs.lemmas.List.Edits.{sets, sets-eq}
use Rattle.codec.specs.Codec.{Codec}

-- the buffer with the bytes from place i on
abbrev pub lay : List ℕ → ℕ → List ℕ → List ℕ
lay l i [] = l
lay l i (x ∷ xs) = lay (set l i x) (i + 1) xs

pub lay_length : (xs l : List ℕ) (i : ℕ) → length (lay l i xs) ≡ length l
lay_length [] l i = refl
lay_length (x ∷ xs) l i = lay_length xs (set l i x) (i + 1) ∙ length-set l i x

pub lay_append : (xs ys l : List ℕ) (i : ℕ) → lay l i (xs ++ ys) ≡ lay (lay l i xs) (i + length xs) ys
lay_append [] ys l i = let e : i + 0 ≡ i = omega arith in rw e
lay_append (x ∷ xs) ys l i =
    let e : i + suc (length xs) ≡ i + 1 + length xs = omega arith in
    rw (lay_append xs ys (set l i x) (i + 1), e)

pub lay_sets : (xs l : List ℕ) (i : ℕ) → lay l i xs ≡ sets l i xs
lay_sets [] l i = refl
lay_sets (x ∷ xs) l i = rw (lay_sets xs (set l i x) (i + 1), add-one)

-- a buffer that is filled whole
pub lay_all : (xs l : List ℕ) → length l ≡ length xs → lay l 0 xs ≡ xs
lay_all xs l e =
    let z : 0 + length xs ≡ length xs = omega arith in
    rw (lay_sets, sets-eq xs l 0 (omega arith), z, drop_of_length-le l {i = length xs} (omega arith)) (append-nil xs)

-- a value, and what comes behind it
pub laid : {n : ℕ} {A : Type 0} (c : Codec n A) (a : A) (bs l : List ℕ) (i : ℕ) → lay l i (c.put a ++ bs) ≡ lay (lay l i (c.put a)) (i + n) bs
laid c a bs l i = rw (lay_append, c.put_length)
