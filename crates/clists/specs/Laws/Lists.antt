-- The words of a Clist: where they stand in the store, and what they depend on.
use Rattle.std.specs.Prelude.{ℕ, ◌+◌, ◌*◌, ◌/◌, ◌<◌, ◌≤◌, min, ◌-◌, ◌≡◌, refl, Bool, true, false, cond, ◌&&◌, List, [], ◌⊎◌, leb, ltb, length, take, drop, get_or}
use Rattle.std.proofs.Common.{ap, sym, ◌∙◌, inl, inr, arith, length-take, length-drop, get_or-take, get_or-drop, leb-true, ltb-true, ltb-false, lt-ltb, le-ltb}
use Rattle.bounded.specs.Bools.{flag, and_no, cond_ind}
use Rattle.state.specs.Places.{slot_at}
use Rattle.state.specs.declared.Capability.{Capability}
use Rattle.state.specs.declared.Object.{Object}
use Rattle.state.specs.declared.Table.{Table}
use Rattle.state.specs.declared.Frame.{Frame}
use Rattle.clists.specs.Clist.{named, live, run_words, zero_pair, until_end, clist, list_at}
use Rattle.clists.specs.Laws.Ends.{reach, end_at, until_length, until_at, end_same, until_same}
use Rattle.clists.specs.Laws.Live.{live_base}

-- Word i of a Clist at a base stands at address 64 × base + i, within the Clist's pages and within the store.
pub record WordAt (words list : List ℕ) (base pages i : ℕ) : Type 0 where
  pub word : get_or list i 0 ≡ get_or words (64 * base + i) 0
  pub in_run : i < 64 * pages
  pub in_store : 64 * base + i < length words

-- the words of a run
module _ (words : List ℕ) (base pages : ℕ) where
  abbrev run : List ℕ
  run = take (64 * pages) (drop (64 * base) words)

  run_at : (i : ℕ) → i < length (run_words words base pages) → WordAt words (run_words words base pages) base pages i
  run_at i h = go (leb (64 * (base + pages)) (length words)) h
    where
      go : (b : Bool) → i < length (cond b run []) → WordAt words (cond b run []) base pages i
      go true l =
          let m : i < min (64 * pages) (length words - 64 * base) = simp (length-take, length-drop) at l in
          record {
            word = get_or-take (64 * pages) (drop (64 * base) words) i 0 (omega arith) ∙ get_or-drop (64 * base) words i 0;
            in_run = omega arith;
            in_store = omega arith;
          }
      go false l = absurd (omega arith)

  -- A run has 64 words a page, none where the store is too short for it.
  pub run_length : length (run_words words base pages) ≡ cond (leb (64 * (base + pages)) (length words)) (64 * pages) 0
  run_length = go (leb (64 * (base + pages)) (length words)) refl
    where
      go : (b : Bool) → leb (64 * (base + pages)) (length words) ≡ b → length (cond b run []) ≡ cond b (64 * pages) 0
      go true e = simp (length-take, length-drop) (omega (arith, leb-true (64 * (base + pages)) (length words) e))
      go false e = refl

  -- So it has no more.
  pub run_short : length (run_words words base pages) ≤ 64 * pages
  run_short =
      rw run_length (cond_ind (λ n. n ≤ 64 * pages) (leb (64 * (base + pages)) (length words)) (64 * pages) 0 (λ e. omega arith) (λ e. omega arith))

  -- Its pairs are pairs of the store.
  pub run_zero : (i : ℕ) → 2 * i + 1 < length (run_words words base pages) → zero_pair (run_words words base pages) i ≡ zero_pair words (32 * base + i)
  run_zero i l =
      let e : 64 * base + 2 * i ≡ 2 * (32 * base + i) = omega arith in
      let e' : 64 * base + (2 * i + 1) ≡ 2 * (32 * base + i) + 1 = omega arith in
      rw ((run_at (2 * i) (omega arith)).word, (run_at (2 * i + 1) l).word, e, e')

-- The words of a Clist are those of its run.
clist_at : (words : List ℕ) (o : Object) (i : ℕ) → i < length (clist words o) → WordAt words (clist words o) o.base o.pages i
unfolding clist
clist_at words o i l =
    let run = run_words words o.base o.pages in
    let w = run_at words o.base o.pages i (omega (arith, until_length run, (end_at run).within)) in
    record { word = until_at run i l ∙ w.word; in_run = w.in_run; in_store = w.in_store }

clist_same : (words words' : List ℕ) (o o' : Object) → o.base ≡ o'.base → o.pages ≡ o'.pages → length words ≡ length words'
    → ((a : ℕ) → 64 * o.base ≤ a → a < 64 * o.base + reach (run_words words o.base o.pages) → get_or words a 0 ≡ get_or words' a 0)
    → clist words o ≡ clist words' o'
unfolding clist
clist_same words words' o o' b p n h = until_same run run' long each
  where
    run : List ℕ
    run = run_words words o.base o.pages

    run' : List ℕ
    run' = run_words words' o'.base o'.pages

    long : length run ≡ length run'
    long = run_length words o.base o.pages ∙ rw (b, p, n) (sym (run_length words' o'.base o'.pages))

    each : (i : ℕ) → i < reach run → get_or run i 0 ≡ get_or run' i 0
    each i l =
        let w = run_at words o.base o.pages i (omega arith) in
        let w' = run_at words' o'.base o'.pages i (omega (arith, long)) in
        w.word ∙ h (64 * o.base + i) (omega arith) (omega arith) ∙ rw b (sym w'.word)

-- The Clist at a slot that is not in use has no words.
pub list_unused : (t : Table) (words : List ℕ) (f : Frame) (k : ℕ) → f.count ≤ k → list_at t words f k ≡ []
unfolding list_at
list_unused t words f k h = rw (le-ltb k f.count h)

-- Nor has that at a slot that is not live.
pub list_dead : (t : Table) (words : List ℕ) (f : Frame) (k : ℕ) → live t (slot_at f k) ≡ false → list_at t words f k ≡ []
unfolding list_at
list_dead t words f k h = rw (h, and_no (ltb k f.count) {b = false} refl)

-- The Clist at a live slot is that of the object that it names.
pub list_live : (t : Table) (words : List ℕ) (f : Frame) (k : ℕ) → k < f.count → live t (slot_at f k) ≡ true
    → list_at t words f k ≡ clist words (named t (slot_at f k))
unfolding list_at
list_live t words f k l h = rw (lt-ltb k f.count l, h)

-- A slot with words in its Clist is in use and live.
pub list_alive : (t : Table) (words : List ℕ) (f : Frame) (k : ℕ) → 0 < length (list_at t words f k) → (k < f.count) × (live t (slot_at f k) ≡ true)
list_alive t words f k h = (used (flag (ltb k f.count)), alive (flag (live t (slot_at f k))))
  where
    used : (ltb k f.count ≡ true) ⊎ (ltb k f.count ≡ false) → k < f.count
    used (inl e) = ltb-true _ _ e
    used (inr e) = absurd (omega (arith, ap length (list_unused t words f k (ltb-false _ _ e))))

    alive : (live t (slot_at f k) ≡ true) ⊎ (live t (slot_at f k) ≡ false) → live t (slot_at f k) ≡ true
    alive (inl e) = e
    alive (inr e) = absurd (omega (arith, ap length (list_dead t words f k e)))

-- The words of the Clist at a slot are those of the store from the slot's page on.
pub list_at_lem : (t : Table) (words : List ℕ) (f : Frame) (k i : ℕ) → i < length (list_at t words f k)
    → WordAt words (list_at t words f k) (slot_at f k).page (named t (slot_at f k)).pages i
list_at_lem t words f k i l =
    let a = list_alive t words f k (omega arith) in
    let e = list_live t words f k a.0 a.1 in
    let w = clist_at words (named t (slot_at f k)) i (rw e at l) in
    let b = live_base t (slot_at f k) a.1 in
    rw b at (rw (← e) at w)

-- With the same table and frame it has as many words in each store of the same length that has the same zero pairs.
pub list_length : (t : Table) (words words' : List ℕ) (f : Frame) (k : ℕ) → length words ≡ length words'
    → ((n : ℕ) → zero_pair words n ≡ zero_pair words' n) → length (list_at t words f k) ≡ length (list_at t words' f k)
unfolding list_at clist
list_length t words words' f k n h = go (ltb k f.count && live t (slot_at f k))
  where
    base : ℕ
    base = (named t (slot_at f k)).base

    pages : ℕ
    pages = (named t (slot_at f k)).pages

    run : List ℕ
    run = run_words words base pages

    run' : List ℕ
    run' = run_words words' base pages

    long : length run ≡ length run'
    long = run_length words base pages ∙ rw n (sym (run_length words' base pages))

    zeros : (i : ℕ) → i < length run / 2 → zero_pair run i ≡ zero_pair run' i
    zeros i l = run_zero words base pages i (omega arith) ∙ h (32 * base + i) ∙ sym (run_zero words' base pages i (omega (arith, long)))

    go : (b : Bool) → length (cond b (until_end run) []) ≡ length (cond b (until_end run') [])
    go true = until_length run ∙ ap (λ m. 2 * m) (end_same run run' long zeros) ∙ sym (until_length run')
    go false = refl

-- What the Clist of a capability depends on: whether it is live, and where it is, the page count of the object named and its words up to
-- the pair that ends the list. What stands behind that pair is not looked at.
pub record SameClist (t t' : Table) (words words' : List ℕ) (c : Capability) : Type 0 where
  pub alive : live t c ≡ live t' c
  pub pages : live t c ≡ true → (named t c).pages ≡ (named t' c).pages
  pub content : live t c ≡ true → (a : ℕ) → 64 * c.page ≤ a → a < 64 * c.page + reach (run_words words c.page (named t c).pages) → get_or words a 0 ≡ get_or words' a 0

-- Where these agree, the Clist at the slot is the same.
pub list_same : (t t' : Table) (words words' : List ℕ) (f : Frame) (k : ℕ) → length words ≡ length words'
    → (k < f.count → SameClist t t' words words' (slot_at f k)) → list_at t words f k ≡ list_at t' words' f k
list_same t t' words words' f k n h = go (flag (ltb k f.count)) (flag (live t (slot_at f k)))
  where
    go : (ltb k f.count ≡ true) ⊎ (ltb k f.count ≡ false) → (live t (slot_at f k) ≡ true) ⊎ (live t (slot_at f k) ≡ false)
        → list_at t words f k ≡ list_at t' words' f k
    go (inr u) x = let m = ltb-false k f.count u in list_unused t words f k m ∙ sym (list_unused t' words' f k m)
    go (inl u) (inr d) =
        let m = h (ltb-true k f.count u) in
        list_dead t words f k d ∙ sym (list_dead t' words' f k (sym m.alive ∙ d))
    go (inl u) (inl a) =
        let l = ltb-true k f.count u in
        let m = h l in
        let b = live_base t (slot_at f k) a in
        let a' = sym m.alive ∙ a in
        list_live t words f k l a
        ∙ clist_same words words' (named t (slot_at f k)) (named t' (slot_at f k)) (b ∙ sym (live_base t' (slot_at f k) a')) (m.pages a) n (rw b (m.content a))
        ∙ sym (list_live t' words' f k l a')
