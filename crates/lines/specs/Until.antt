-- Where a byte stands in a text.
use Prim.Native.Nat.{ℕ, suc, ◌+◌, ◌-◌, ◌<◌, ◌≤◌}
use Rattle.std.specs.Prelude.{◌≡◌, refl, Bool, true, false, cond, List, [], ◌∷◌, eqb, length, drop, get_or}
use Rattle.std.proofs.Common.{arith, drop_of_length-le, length-drop, drop-cons}
use Rattle.std.proofs.Math.Numerals.{add-one}
use borrow.Author.Tests.{eq-eqb, ne_eqb, eqb-true}

-- where the first byte b stands, or the length
unfoldable pub until : ℕ → List ℕ → ℕ
until b [] = 0
until b (a ∷ s) = cond (eqb a b) 0 (suc (until b s))

pub until_bound : (b : ℕ) (s : List ℕ) → until b s ≤ length s
unfolding until
until_bound b [] = omega arith
until_bound b (a ∷ s) = go (eqb a b) (until_bound b s)
  where
    go : (t : Bool) → until b s ≤ length s → cond t 0 (suc (until b s)) ≤ suc (length s)
    go true h = omega arith
    go false h = omega arith

pub until_within : (b : ℕ) (s : List ℕ) (from : ℕ) {end : ℕ} → end ≡ from + until b (drop from s) → end ≤ from + (length s - from)
until_within b s from e = omega (arith, until_bound b (drop from s), length-drop from s)

-- before the end of the text it is the byte that stands there
pub until_at : (b : ℕ) (s : List ℕ) → until b s < length s → get_or s (until b s) 0 ≡ b
unfolding until
until_at b [] h = absurd (omega arith)
until_at b (a ∷ s) h = go (eqb a b) refl h (until_at b s)
  where
    go : (t : Bool) → eqb a b ≡ t → cond t 0 (suc (until b s)) < length (a ∷ s) → (until b s < length s → get_or s (until b s) 0 ≡ b)
        → get_or (a ∷ s) (cond t 0 (suc (until b s))) 0 ≡ b
    go true e l ih = eqb-true a b e
    go false e l ih = ih (omega arith)

-- what a loop from `from` on knows at `i`, when it met no b
pub record Seeking (b : ℕ) (s : List ℕ) (from i : ℕ) : Type 0 where
  pub start : from ≤ i
  pub rest : from + until b (drop from s) ≡ i + until b (drop i s)

module _ {b : ℕ} {s : List ℕ} {from : ℕ} where
  pub seeking_none : Seeking b s from from
  seeking_none = record { start = omega arith; rest = refl }

  module _ {i : ℕ} (k : Seeking b s from i) where
    pub seeking_more : i < length s → (get_or s i 0 ≡ b → ⊥) → Seeking b s from (i + 1)
    unfolding until
    seeking_more h n =
        let e : until b (drop i s) ≡ suc (until b (drop (i + 1) s)) = rw (drop-cons s i 0, ne_eqb _ _ n, add-one i) in
        record { start = omega (arith, k.start); rest = omega (arith, k.rest, e) }

    pub seeking_found : i < length s → get_or s i 0 ≡ b → i ≡ from + until b (drop from s)
    unfolding until
    seeking_found h n =
        let e : until b (drop i s) ≡ 0 = rw (drop-cons s i 0, eq-eqb _ _ n) in
        omega (arith, k.rest, e)

    pub seeking_all : length s ≤ i → i ≡ from + until b (drop from s)
    unfolding until
    seeking_all h =
        let e : until b (drop i s) ≡ 0 = rw (drop_of_length-le s h) in
        omega (arith, k.rest, e)
