-- Words off bytes, and a run of them written: where the slices are long enough, and the loops.
use Rattle.std.specs.Prelude.{ℕ, ◌+◌, ◌-◌, ◌*◌, ◌<◌, ◌≤◌, ◌≡◌, refl, List, get_or, set, drop}
use Rattle.std.proofs.Common.{ap, sym, ◌∙◌, ⊎_elim, arith, length-set, ext_get_or, get_or-set_same, get_or-set_other}
use Rattle.std.proofs.Math.ListN.{length}
use borrow.Author.Tests.{le-leb, lt-leb}
use Rattle.bounded.specs.Bools.{same_or_not}
use Rattle.bounded.specs.Fill.{tabulate_at}
use Rattle.codec.specs.Number.{number}
use Rattle.codec.specs.Array.{runs, array, gets_length}
use Rattle.codec.specs.Laid.{lay}
use Rattle.codec.specs.Loop.{Laying, laying_none, laying_more, array_places}
use Rattle.layout.specs.Whole.{words_read, words_put}

-- where there are bytes for k words
pub read_whole : (k : ℕ) (ws bs : List ℕ) → length ws ≡ k → 8 * k ≤ length bs → words_read ws bs ≡ (array k (number 8) 0).get bs
unfolding words_read
read_whole k ws bs l m = rw (l, le-leb (8 * k) (length bs) m)

-- where both slices reach the end of a run
pub put_within : (from to : ℕ) (bs ws : List ℕ) → 8 * to ≤ length bs → to ≤ length ws
    → words_put bs ws from to ≡ lay bs (8 * from) (runs (to - from) (λ j. (number 8).put (get_or ws (from + j) 0)))
unfolding words_put
put_within from to bs ws l m = rw (le-leb (8 * to) (length bs) l, le-leb to (length ws) m)

-- word i of the bytes
abbrev word : List ℕ → ℕ → ℕ
word bs i = (number 8).get (drop (8 * i) bs)

-- the first i words are read
pub record Loading (ws bs new : List ℕ) (i : ℕ) : Type 0 where
  pub within : i ≤ length ws
  pub long : length new ≡ length ws
  pub so_far : (j : ℕ) → j < i → get_or new j 0 ≡ word bs j

module _ (ws bs : List ℕ) where
  pub loading_none : Loading ws bs ws 0
  loading_none = record { within = omega arith; long = refl; so_far = λ j h. absurd (omega arith) }

  pub loading_more : {new : List ℕ} {i : ℕ} → Loading ws bs new i → i < length ws → (x : ℕ) → x ≡ word bs i → Loading ws bs (set new i x) (i + 1)
  loading_more {new} {i} s h x e =
      record {
        within = omega arith;
        long = length-set new i x ∙ s.long;
        so_far =
            λ j l.
            ⊎_elim (λ q. rw q (get_or-set_same new i x 0 (omega (arith, s.long)) ∙ e))
            (λ q. get_or-set_other new i j x 0 q ∙ s.so_far j (omega arith)) (same_or_not j i);
      }

  pub loading_all : {new : List ℕ} {i : ℕ} → Loading ws bs new i → length ws ≤ i → 8 * length ws ≤ length bs → new ≡ words_read ws bs
  loading_all {new} {i} s h l =
      ext_get_or 0 new ((array (length ws) (number 8) 0).get bs) (s.long ∙ sym (gets_length (number 8) (length ws) bs))
      (λ j m. s.so_far j (omega (arith, s.long)) ∙ sym (at j (omega (arith, s.long)))) ∙ sym (read_whole (length ws) ws bs refl l)
    where
      at : (j : ℕ) → j < length ws → get_or ((array (length ws) (number 8) 0).get bs) j 0 ≡ word bs j
      at j m = ap (λ t. get_or t j 0) (array_places (number 8) 0 (length ws) bs) ∙ tabulate_at (length ws) (word bs) j 0 m

  -- too few bytes
  pub too_few : length bs < 8 * length ws → ws ≡ words_read ws bs
  unfolding words_read
  too_few l = rw (lt-leb (8 * length ws) (length bs) l)

-- the words of the run are written up to place i
pub record Putting (from to : ℕ) (old ws new : List ℕ) (i : ℕ) : Type 0 where
  pub behind : from ≤ i
  pub laying : Laying (number 8) (λ j. get_or ws (from + j) 0) (to - from) old (8 * from) new (i - from)

module _ (from to : ℕ) (old ws : List ℕ) where
  pub putting_none : Putting from to old ws old from
  putting_none = let z : from - from ≡ 0 = omega arith in record { behind = omega arith; laying = rw z (laying_none (number 8) _ (to - from) old (8 * from)) }

  pub putting_more : {new next : List ℕ} {i : ℕ} → Putting from to old ws new i → i < to
      → (next ≡ lay new (8 * i) ((number 8).put (get_or ws i 0))) × (number 8).fits (get_or ws i 0) → Putting from to old ws next (i + 1)
  putting_more {new} {next} {i} s h e =
      let b = s.behind in
      let k : from + (i - from) ≡ i = omega arith in
      let m : 8 * from + 8 * (i - from) ≡ 8 * i = omega arith in
      let n : i + 1 - from ≡ i - from + 1 = omega arith in
      record {
        behind = omega arith;
        laying = rw n (laying_more (number 8) (λ j. get_or ws (from + j) 0) (to - from) old (8 * from) s.laying (omega arith) (rw (m, k) e.0) (rw k e.1));
      }

  pub putting_all : {new : List ℕ} {i : ℕ} → Putting from to old ws new i → to ≤ i → 8 * to ≤ length old → to ≤ length ws → new ≡ words_put old ws from to
  putting_all {new} {i} s h l m =
      let e : to - from ≡ i - from = omega (arith, s.laying.within) in
      rw (put_within from to old ws l m, e) s.laying.so_far

  -- the bytes, or the words, end before the run
  pub bytes_end : length old < 8 * to → old ≡ words_put old ws from to
  unfolding words_put
  bytes_end l = rw (lt-leb (8 * to) (length old) l)

  pub words_end : 8 * to ≤ length old → length ws < to → old ≡ words_put old ws from to
  unfolding words_put
  words_end l m = rw (le-leb (8 * to) (length old) l, lt-leb to (length ws) m)
