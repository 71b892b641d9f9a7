-- Which pairs of the store stand in the Clist at a slot: document 02, T-01.
use Rattle.std.specs.Prelude.{ℕ, ◌+◌, ◌*◌, ◌/◌, ◌<◌, ◌≤◌, ◌≡◌, true, false, List, ◌↔◌, ◌⊎◌, leb, ltb, length}
use Rattle.std.proofs.Common.{sym, ◌∙◌, true≢false, inl, inr, arith, leb-true, le-leb, ltb-true, ltb-false}
use Rattle.bounded.specs.Bools.{flag}
use Rattle.state.specs.Places.{slot_at}
use Rattle.state.specs.declared.Object.{Object}
use Rattle.state.specs.declared.Table.{Table}
use Rattle.state.specs.declared.Frame.{Frame}
use Rattle.clists.specs.Clist.{named, live, run_words, zero_pair, list_end, clist, list_at}
use Rattle.clists.specs.Laws.Live.{live_base}
use Rattle.clists.specs.Laws.Ends.{end_at, until_length}
use Rattle.clists.specs.Laws.Lists.{run_length, run_short, run_zero, list_live, list_alive}

-- The slot is in use and live, the pair lies in the object that it names, and neither the pair nor one before it in the object has two
-- zero words. Pair n of the store is that at the address 2 × n.
pub record Listed (t : Table) (words : List ℕ) (f : Frame) (k i : ℕ) : Type 0 where
  pub in_use : k < f.count
  pub alive : live t (slot_at f k) ≡ true
  pub in_object : i < 32 * (named t (slot_at f k)).pages
  pub in_store : 64 * ((slot_at f k).page + (named t (slot_at f k)).pages) ≤ length words
  pub unended : (j : ℕ) → j ≤ i → zero_pair words (32 * (slot_at f k).page + j) ≡ false

-- pair i of a run stands before the end exactly so
module _ (words : List ℕ) (base pages i : ℕ) where
  abbrev run : List ℕ
  run = run_words words base pages

  before_end : i < list_end run → (i < 32 * pages) × ((64 * (base + pages) ≤ length words) × ((j : ℕ) → j ≤ i → zero_pair words (32 * base + j) ≡ false))
  before_end l = (omega (arith, run_short words base pages, (end_at run).within), (fits (flag (leb (64 * (base + pages)) (length words))), unended))
    where
      fits : (leb (64 * (base + pages)) (length words) ≡ true) ⊎ (leb (64 * (base + pages)) (length words) ≡ false) → 64 * (base + pages) ≤ length words
      fits (inl e) = leb-true _ _ e
      fits (inr e) = let z : length run ≡ 0 = run_length words base pages ∙ rw e in absurd (omega (arith, (end_at run).within))

      unended : (j : ℕ) → j ≤ i → zero_pair words (32 * base + j) ≡ false
      unended j m = sym (run_zero words base pages j (omega (arith, (end_at run).within))) ∙ (end_at run).before j (omega arith)

  end_behind : i < 32 * pages → 64 * (base + pages) ≤ length words → ((j : ℕ) → j ≤ i → zero_pair words (32 * base + j) ≡ false) → i < list_end run
  end_behind l m h = go (flag (ltb i (list_end run)))
    where
      long : length run ≡ 64 * pages
      long = run_length words base pages ∙ rw (le-leb (64 * (base + pages)) (length words) m)

      go : (ltb i (list_end run) ≡ true) ⊎ (ltb i (list_end run) ≡ false) → i < list_end run
      go (inl e) = ltb-true _ _ e
      go (inr e) =
          let n : list_end run ≤ i = ltb-false _ _ e in
          let z = run_zero words base pages (list_end run) (omega (arith, long)) in
          absurd (true≢false (sym ((end_at run).ending (omega (arith, long))) ∙ z ∙ h (list_end run) n))

-- WHICH PAIRS A CLIST HAS: pair i of the Clist at slot k is one exactly so.
pub listed_exactly : (t : Table) (words : List ℕ) (f : Frame) (k i : ℕ) → i < length (list_at t words f k) / 2 ↔ Listed t words f k i
unfolding clist
listed_exactly t words f k i = (to, from)
  where
    o : Object
    o = named t (slot_at f k)

    has : k < f.count → live t (slot_at f k) ≡ true → length (list_at t words f k) ≡ 2 * list_end (run_words words (slot_at f k).page o.pages)
    has u a = rw (list_live t words f k u a, live_base t (slot_at f k) a) (until_length _)

    to : i < length (list_at t words f k) / 2 → Listed t words f k i
    to l =
        let a = list_alive t words f k (omega arith) in
        let b = before_end words (slot_at f k).page o.pages i (omega (arith, has a.0 a.1)) in
        record { in_use = a.0; alive = a.1; in_object = b.0; in_store = b.1.0; unended = b.1.1 }

    from : Listed t words f k i → i < length (list_at t words f k) / 2
    from x =
        let b = end_behind words (slot_at f k).page o.pages i x.in_object x.in_store x.unended in
        omega (arith, has x.in_use x.alive)
