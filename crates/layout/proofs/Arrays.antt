-- The places of an array in turn: a loop that loads them, and a test of each.
use Rattle.std.specs.Prelude.{ℕ, suc, ◌+◌, ◌*◌, ◌<◌, ◌≤◌, ◌≡◌, refl, List, length, get_or, set, drop}
use Rattle.std.proofs.Common.{sym, ◌∙◌, ap, arith, ⊎_elim, add-one, mul-suc, drop-drop, length-set, get_or-set_same, get_or-set_other}
use Rattle.std.specs.List.{list_all, range_with_len}
use Rattle.bounded.specs.Bools.{same_or_not}
use Rattle.bounded.specs.Fill.{tabulate_at, by_places}
use Rattle.codec.specs.Codec.{Codec}
use Rattle.codec.specs.Array.{oks, gets, gets_length}
use Rattle.codec.specs.Loop.{gets_places}

-- the first i of k values are those that lie from `at` on
pub record Loaded {n : ℕ} {A : Type 0} (c : Codec n A) (d : A) (k at : ℕ) (bs : List ℕ) (new : List A) (i : ℕ) : Type 0 where
  pub within : i ≤ k
  pub long : length new ≡ k
  pub so_far : (j : ℕ) → j < i → get_or new j d ≡ c.get (drop (at + n * j) bs)

module _ {n : ℕ} {A : Type 0} (c : Codec n A) (d : A) (k at : ℕ) (bs : List ℕ) where
  pub loaded_none : {old : List A} → length old ≡ k → Loaded c d k at bs old 0
  loaded_none l = record { within = omega arith; long = l; so_far = λ j h. absurd (omega arith) }

  pub loaded_more : {new : List A} {i : ℕ} → Loaded c d k at bs new i → i < k → (x : A) → x ≡ c.get (drop (at + n * i) bs)
      → Loaded c d k at bs (set new i x) (i + 1)
  loaded_more {new} {i} s h x e =
      record {
        within = omega arith;
        long = length-set new i x ∙ s.long;
        so_far =
            λ j l.
            ⊎_elim (λ q. rw q (get_or-set_same new i x d (omega (arith, s.long)) ∙ e))
            (λ q. get_or-set_other new i j x d q ∙ s.so_far j (omega arith)) (same_or_not j i);
      }

  pub loaded_all : {new : List A} {i : ℕ} → Loaded c d k at bs new i → k ≤ i → new ≡ gets c k (drop at bs)
  loaded_all {new} {i} s h =
      by_places k new (gets c k (drop at bs)) d s.long (gets_length c k (drop at bs))
      (λ j l. s.so_far j (omega (arith, s.within)) ∙ sym (ap (λ t. get_or t j d) (gets_places c k at bs) ∙ tabulate_at k _ j d l))

-- the test of an array is that of its places
pub oks_places : {n : ℕ} {A : Type 0} (c : Codec n A) (k a i : ℕ) (bs : List ℕ)
    → oks c k (drop (a + n * i) bs) ≡ list_all (λ j. c.ok (drop (a + n * j) bs)) (range_with_len i k)
oks_places c ℕ.zero a i bs = refl
oks_places {n} c (suc k) a i bs =
    let e : a + n * i + n ≡ a + n * (i + 1) = rw (add-one, mul-suc) (omega arith) in
    rw (drop-drop, e, oks_places c k a (i + 1) bs)
