-- The bases that the program writes rise, over the whole text: document 02, T-06.
use Prim.Native.Nat.{ℕ, zero, suc, ◌+◌, ◌*◌, ◌<◌, ◌≤◌}
use Rattle.std.specs.Prelude.{◌≡◌, Bool}
use Rattle.std.proofs.Math.Path.{refl}
use Rattle.std.proofs.Math.Bool.{true, false, cond}
use mathlib.Core.List.{List, [], ◌∷◌, ◌++◌, append-nil}
use native.Mathlib.Omega.{arith}
use Rattle.state.specs.Places.{object_at, estate_at}
use Rattle.state.specs.Extent.{free}
use Rattle.state.specs.Laws.Extent.{not_zero}
use Rattle.state.specs.declared.Object.{Object}
use Rattle.state.specs.declared.Estate.{Estate}
use Rattle.state.specs.declared.State.{State}
use Rattle.soundness.specs.Sound.{estate_ok, sound}
use Rattle.soundness.specs.Laws.ObjectParts.{ObjectBounds, object_parts}
use Rattle.soundness.specs.Laws.StateParts.{estate_parts, state_parts}
use Rattle.soundness.specs.Laws.Order.{estate_before}
use Rattle.stream.specs.Program.{input_sound}
use Rattle.ending.specs.Behind.{behind, table_behind}
use Rattle.listing.specs.Lines.{header}
use Rattle.listing.specs.Standing.{standing_in, estate_standing, standing, lines_of, Rising, listing_lines}
use Rattle.objects.specs.Listed.{listed}

-- the bases rise from `low` on, and each is below `high`
abbrev Between : ℕ → List Object → ℕ → Type 0
Between low [] high = low ≤ high
Between low (o ∷ os) high = (low ≤ o.base) × Between (suc o.base) os high

between_append : (low mid high : ℕ) (xs ys : List Object) → Between low xs mid → Between mid ys high → Between low (xs ++ ys) high
between_append low mid high [] [] x y = omega arith
between_append low mid high [] (o ∷ ys) x y = (omega (arith, y.0), y.1)
between_append low mid high (o ∷ xs) ys x y = (x.0, between_append (suc o.base) mid high xs ys x.1 y)

between_rises : (low high : ℕ) (os : List Object) → Between low os high → Rising low os
between_rises low high [] x = tt
between_rises low high (o ∷ os) x = (x.0, between_rises (suc o.base) high os x.1)

module _ (e : Estate) (d : ℕ) (h : estate_ok e d ≡ true) where
  bounds : (k : ℕ) → k < 8 → 0 < (object_at e k).pages → ObjectBounds (object_at e k) d
  bounds k l = (object_parts (object_at e k) d ((estate_parts e d h).object k l)).bounds

  -- of the first n places, where the objects there are below `high`
  places : (n high : ℕ) → n ≤ 8 → 32 * d ≤ high → ((i : ℕ) → i < n → 0 < (object_at e i).pages → (object_at e i).base < high)
      → Between (32 * d) (standing_in (object_at e) n) high
  unfolding standing_in
  places zero high m l u = l
  places (suc n) high m l u = go (free (object_at e n)) refl (places n)
    where
      go : (b : Bool) → free (object_at e n) ≡ b
          → ((high : ℕ) → n ≤ 8 → 32 * d ≤ high → ((i : ℕ) → i < n → 0 < (object_at e i).pages → (object_at e i).base < high) → Between (32 * d) (standing_in (object_at e) n) high)
          → Between (32 * d) (standing_in (object_at e) n ++ cond b [] (object_at e n ∷ [])) high
      go true q rest = rw (append-nil (standing_in (object_at e) n)) (rest high (omega arith) l (λ i k p. u i (omega arith) p))
      go false q rest =
          let p = not_zero _ q in
          between_append (32 * d) (object_at e n).base high (standing_in (object_at e) n) (object_at e n ∷ [])
          (rest (object_at e n).base (omega arith) (bounds n (omega arith) p).from
          (λ i k s. let r = estate_before e d h i n k (omega arith) p in omega (arith, r.ends, r.stands)))
          (omega arith, u n (omega arith) p)

  estate_between : (next : ℕ) → next ≡ 32 * d + 32 → Between (32 * d) (estate_standing e) next
  unfolding estate_standing
  estate_between next q =
      places 8 next (omega arith) (omega arith) (λ i l p. let b = bounds i l p in omega (arith, b.to, p))

-- THE STANDING OBJECTS OF A SOUND STATE have rising bases
pub standing_rises : (s : State) → sound s ≡ true → Rising 0 (standing s.table)
unfolding standing
standing_rises s h =
    between_rises 0 128 (standing s.table)
    (between_append 0 96 128 (estate_standing (at 0) ++ estate_standing (at 1) ++ estate_standing (at 2)) (estate_standing (at 3))
    (between_append 0 64 96 (estate_standing (at 0) ++ estate_standing (at 1)) (estate_standing (at 2))
    (between_append 0 32 64 (estate_standing (at 0)) (estate_standing (at 1)) (of 0 32 (omega arith) refl) (of 1 64 (omega arith) refl)) (of 2 96 (omega arith) refl))
    (of 3 128 (omega arith) refl))
  where
    at : ℕ → Estate
    at d = estate_at s.table d

    of : (d next : ℕ) → d < 4 → next ≡ 32 * d + 32 → Between (32 * d) (estate_standing (at d)) next
    of d next l q = estate_between (at d) d ((state_parts s h).estate d l) next q

-- WHATEVER THE INPUT, the program writes the header and a line for each standing object, and the bases in these lines rise
pub listed_rises : (input : List ℕ)
    → (listed input ≡ header ++ lines_of (standing (table_behind input))) × Rising 0 (standing (table_behind input))
unfolding behind
listed_rises input = (listing_lines (table_behind input), standing_rises (behind input).state (input_sound input))
