-- Where a list ends: document 02, T-01.
use Rattle.std.specs.Prelude.{ℕ, ◌+◌, ◌*◌, ◌/◌, ◌<◌, ◌≤◌, min, ◌≡◌, refl, true, false, List, [], ◌↔◌, ◌⊎◌, ltb, length, get_or}
use Rattle.std.proofs.Common.{ap, sym, ◌∙◌, inl, inr, arith, ext_get_or, ltb-true, ltb-false}
use Rattle.std.proofs.Math.ListN.{length-take}
use Rattle.std.proofs.Math.Seq.{get_or-take, take_all}
use Rattle.bounded.specs.Bools.{flag}
use Rattle.bounded.specs.Search.{first, first_none, first_at}
use Rattle.bounded.specs.Place.{PlaceFound, PlaceMissing, search_cases}
use Rattle.clists.specs.Clist.{zero_pair, list_end, until_end}

-- A run's list has e pairs: none of them is a zero pair, and behind them stands one, or nothing.
pub record EndsAt (run : List ℕ) (e : ℕ) : Type 0 where
  pub within : e ≤ length run / 2
  pub before : (i : ℕ) → i < e → zero_pair run i ≡ false
  pub ending : e < length run / 2 → zero_pair run e ≡ true

-- how many words of a run tell its list: the pairs before the end, and the pair that ends it
abbrev pub reach : List ℕ → ℕ
reach run = min (length run) (2 * list_end run + 2)

module _ (run : List ℕ) where
  -- THE END OF A LIST IS ITS FIRST ZERO PAIR, and there is none before it.
  pub end_exactly : (e : ℕ) → list_end run ≡ e ↔ EndsAt run e
  unfolding list_end
  end_exactly e = (λ h. rw h at (ends (search_cases (zero_pair run) (length run / 2))), λ a. is a (flag (ltb e (length run / 2))))
    where
      ends : PlaceFound (zero_pair run) (length run / 2) ⊎ PlaceMissing (zero_pair run) (length run / 2) → EndsAt run (list_end run)
      ends (inl f) = record { within = omega (arith, f.within); before = f.before; ending = λ l. f.passes }
      ends (inr m) =
          record { within = omega (arith, m.end); before = λ i l. m.none i (omega (arith, m.end)); ending = λ l. absurd (omega (arith, m.end)) }

      is : EndsAt run e → (ltb e (length run / 2) ≡ true) ⊎ (ltb e (length run / 2) ≡ false) → list_end run ≡ e
      is a (inl l) =
          let b : e < length run / 2 = ltb-true e (length run / 2) l in
          first_at (zero_pair run) (λ i. i) (length run / 2) 0 (length run / 2) e
          (record { place = e; from = omega arith; below = omega arith; there = refl; holds = a.ending b; before = λ j c z. a.before j z })
      is a (inr l) =
          let b : length run / 2 ≤ e = ltb-false e (length run / 2) l in
          let n : length run / 2 ≡ e = omega (arith, a.within) in
          first_none (zero_pair run) (λ i. i) (length run / 2) 0 (length run / 2) (λ j c z. a.before j (omega arith)) ∙ n

  -- where it is
  pub end_at : EndsAt run (list_end run)
  end_at = (end_exactly (list_end run)).0 refl

  -- The list has two words for each pair before the end.
  pub until_length : length (until_end run) ≡ 2 * list_end run
  unfolding until_end
  until_length = simp length-take (omega (arith, end_at.within))

  -- Its words are those of the run.
  pub until_at : (i : ℕ) → i < length (until_end run) → get_or (until_end run) i 0 ≡ get_or run i 0
  unfolding until_end
  until_at i l = get_or-take (2 * list_end run) run i 0 (omega (arith, until_length))

  -- A run of whole pairs, none of them a zero pair, is a list to its end.
  pub until_whole : (n : ℕ) → length run ≡ 2 * n → ((i : ℕ) → i < n → zero_pair run i ≡ false) → until_end run ≡ run
  unfolding until_end
  until_whole n even h =
      take_all (2 * list_end run) run
      (omega (arith, (end_exactly n).1 (record { within = omega arith; before = h; ending = λ l. absurd (omega arith) })))

-- No words are no list.
pub until_none : until_end [] ≡ []
unfolding until_end list_end first
until_none = refl

module _ (run run' : List ℕ) (long : length run ≡ length run') where
  -- Two runs with the same zero pairs have lists of the same length.
  pub end_same : ((i : ℕ) → i < length run / 2 → zero_pair run i ≡ zero_pair run' i) → list_end run ≡ list_end run'
  end_same h =
      (end_exactly run (list_end run')).1
      (record {
        within = omega (arith, (end_at run').within);
        before = λ i l. h i (omega (arith, (end_at run').within)) ∙ (end_at run').before i l;
        ending = λ l. h (list_end run') l ∙ (end_at run').ending (omega arith);
      })

  -- WHAT STANDS BEHIND THE END IS NO PART OF A LIST: two runs that agree up to the pair that ends the one's list have the same list.
  pub until_same : ((i : ℕ) → i < reach run → get_or run i 0 ≡ get_or run' i 0) → until_end run ≡ until_end run'
  until_same h = ext_get_or 0 _ _ (until_length run ∙ ap (λ n. 2 * n) same ∙ sym (until_length run')) each
    where
      zero : (i : ℕ) → i ≤ list_end run → i < length run / 2 → zero_pair run i ≡ zero_pair run' i
      zero i l m = rw (h (2 * i) (omega arith), h (2 * i + 1) (omega arith))

      same : list_end run ≡ list_end run'
      same =
          sym
          ((end_exactly run' (list_end run)).1
          (record {
            within = omega (arith, (end_at run).within);
            before = λ i l. sym (zero i (omega arith) (omega (arith, (end_at run).within))) ∙ (end_at run).before i l;
            ending = λ l. sym (zero (list_end run) (omega arith) (omega arith)) ∙ (end_at run).ending (omega arith);
          }))

      each : (i : ℕ) → i < length (until_end run) → get_or (until_end run) i 0 ≡ get_or (until_end run') i 0
      each i l =
          until_at run i l
          ∙ h i (omega (arith, until_length run, (end_at run).within))
          ∙ sym (until_at run' i (omega (arith, until_length run, until_length run', same)))
