-- The first pair that passes a test, by slot and then by place: what `frame_first` finds, told pair by pair.
use Rattle.std.specs.Prelude.{ℕ, ◌*◌, ◌<◌, ◌≡◌, refl, Bool, true, List, ◌⊎◌, None, Ok}
use Rattle.std.proofs.Math.Path.{ap, sym}
use Rattle.std.proofs.Common.{◌∙◌, true≢false, arith}
use Rattle.std.proofs.Math.Bool.{false}
use Rattle.std.proofs.Math.Logic.{inl, inr, ⊎_elim}
use Rattle.bounded.specs.Search.{FirstAt, NoneAt, first_cases, first_none, first_at}
use Rattle.state.specs.Places.{slot_at}
use Rattle.state.specs.declared.Object.{Object}
use Rattle.state.specs.declared.Table.{Table}
use Rattle.state.specs.declared.Frame.{Frame}
use Rattle.clists.specs.Clist.{list_at}
use Rattle.judge.specs.Search.{pair_verdict, list_first, slot_first, frame_first}
use Rattle.judge.specs.Pairs.{pairs_at, Before}
use Rattle.judge.specs.Search.{Verdict}

-- what a pair says
abbrev pub says : Table → List ℕ → Frame → Object → ℕ → ℕ → ℕ → Verdict
says t words f o wanted slot = pair_verdict (list_at t words f slot) (64 * (slot_at f slot).page) o wanted

-- the verdict is that of a pair, and it passes the test; that of no pair before it does
pub record FirstPasses (test : Verdict → Bool) (t : Table) (words : List ℕ) (f : Frame) (o : Object) (wanted : ℕ) (v : Verdict) : Type 0 where
  pub slot : ℕ
  pub place : ℕ
  pub in_frame : slot < 8
  pub in_list : place < pairs_at t words f slot
  pub there : says t words f o wanted slot place ≡ v
  pub passing : test (says t words f o wanted slot place) ≡ true
  pub before : (i j : ℕ) → Before i j slot place → j < pairs_at t words f i → test (says t words f o wanted i j) ≡ false

-- that of no pair passes it
abbrev pub NonePasses : (Verdict → Bool) → Table → List ℕ → Frame → Object → ℕ → Type 0
NonePasses test t words f o wanted = (i j : ℕ) → i < 8 → j < pairs_at t words f i → test (says t words f o wanted i j) ≡ false

-- a pair passed over must not pass the test
module _ (test : Verdict → Bool) (unheard : test (Ok None) ≡ false) (t : Table) (words : List ℕ) (f : Frame) (o : Object) (wanted : ℕ) where
  -- a pair of slot k that says v and passes, and no pair of the slot before it does
  abbrev SlotPasses : ℕ → Verdict → Type 0
  SlotPasses k v = FirstAt (λ i. test (says t words f o wanted k i)) (says t words f o wanted k) 0 (pairs_at t words f k) v

  -- no pair of slot k passes
  abbrev SlotFails : ℕ → Type 0
  SlotFails k = NoneAt (λ i. test (says t words f o wanted k i)) 0 (pairs_at t words f k)

  slot_cases : (k : ℕ) → SlotPasses k (slot_first test t words f o wanted k) ⊎ SlotFails k
  unfolding slot_first list_first
  slot_cases k = first_cases _ (says t words f o wanted k) (Ok None) 0 (pairs_at t words f k)

  slot_at_lem : (k : ℕ) (v : Verdict) → SlotPasses k v → slot_first test t words f o wanted k ≡ v
  unfolding slot_first list_first
  slot_at_lem k v r = first_at _ (says t words f o wanted k) (Ok None) 0 _ v r

  slot_none : (k : ℕ) → SlotFails k → slot_first test t words f o wanted k ≡ Ok None
  unfolding slot_first list_first
  slot_none k h = first_none _ (says t words f o wanted k) (Ok None) 0 _ h

  -- where what is found in a Clist fails, each of its pairs does
  slot_fails : (k : ℕ) → test (slot_first test t words f o wanted k) ≡ false → SlotFails k
  slot_fails k h = ⊎_elim (λ r. absurd (true≢false (sym r.holds ∙ ap test r.there ∙ h))) (λ n. n) (slot_cases k)

  -- where it passes, one of its pairs does
  slot_passes : (k : ℕ) → test (slot_first test t words f o wanted k) ≡ true → SlotPasses k (slot_first test t words f o wanted k)
  slot_passes k h = ⊎_elim (λ r. r) (λ n. absurd (true≢false (sym h ∙ ap test (slot_none k n) ∙ unheard))) (slot_cases k)

  -- what is found is what the first pair that passes says, or no pair passes
  pub frame_cases : FirstPasses test t words f o wanted (frame_first test t words f o wanted) ⊎ NonePasses test t words f o wanted
  unfolding frame_first
  frame_cases =
      ⊎_elim (λ r. inl (found r (slot_passes r.place r.holds)))
      (λ n. inr (λ i j l m. slot_fails i (n i (omega arith) (omega arith)) j (omega arith) (omega arith)))
      (first_cases (λ k. test (slot_first test t words f o wanted k)) (slot_first test t words f o wanted) (Ok None) 0 8)
    where
      found : (r : FirstAt (λ k. test (slot_first test t words f o wanted k)) (slot_first test t words f o wanted) 0 8 (frame_first test t words f o wanted))
          → SlotPasses r.place (slot_first test t words f o wanted r.place) → FirstPasses test t words f o wanted (frame_first test t words f o wanted)
      found r q =
          record {
            slot = r.place;
            place = q.place;
            in_frame = omega arith;
            in_list = omega arith;
            there = q.there ∙ r.there;
            passing = q.holds;
            before = earlier;
          }
        where
          earlier : (i j : ℕ) → Before i j r.place q.place → j < pairs_at t words f i → test (says t words f o wanted i j) ≡ false
          earlier i j (inl z) l = slot_fails i (r.before i (omega arith) z) j (omega arith) (omega arith)
          earlier i j (inr z) l = rw z.0 (q.before j (omega arith) z.1)

  -- what the first pair that passes says is found
  pub frame_at : (v : Verdict) → FirstPasses test t words f o wanted v → frame_first test t words f o wanted ≡ v
  unfolding frame_first
  frame_at v d =
      first_at _ (slot_first test t words f o wanted) (Ok None) 0 8 v
      (record {
        place = d.slot;
        from = omega arith;
        below = omega arith;
        there = there;
        holds = ap test (there ∙ sym d.there) ∙ d.passing;
        before = λ i a z. ap test (slot_none i (λ j b l. d.before i j (inl z) (omega arith))) ∙ unheard;
      })
    where
      there : slot_first test t words f o wanted d.slot ≡ v
      there =
          slot_at_lem d.slot v
          (record {
            place = d.place;
            from = omega arith;
            below = omega arith;
            there = d.there;
            holds = d.passing;
            before = λ j a z. d.before d.slot j (inr (refl, z)) (omega arith);
          })

  -- where no pair passes, nothing is
  pub frame_none : NonePasses test t words f o wanted → frame_first test t words f o wanted ≡ Ok None
  unfolding frame_first
  frame_none h =
      first_none _ (slot_first test t words f o wanted) (Ok None) 0 8
      (λ i a z. ap test (slot_none i (λ j b l. h i j (omega arith) (omega arith))) ∙ unheard)
