-- What a judgement depends on: the pairs of the Clists searched, their modes for the object asked for, and whether it stands.
use Rattle.std.specs.Prelude.{ℕ, ◌<◌, ◌≡◌, Bool, true, false, cond, ◌||◌, List, eqb, None, Ok}
use Rattle.std.proofs.Math.Path.{ap}
use Rattle.std.proofs.Common.{sym, ◌∙◌, true≢false, ⊎_elim, arith}
use Rattle.bounded.specs.Bools.{same_or_not}
use Rattle.bounded.specs.Search.{first, first_same}
use Rattle.state.specs.Extent.{free}
use Rattle.state.specs.declared.Object.{Object}
use Rattle.state.specs.declared.Table.{Table}
use Rattle.state.specs.declared.Frame.{Frame}
use Rattle.clists.specs.Clist.{list_at}
use Rattle.judge.specs.Search.{verdict_of, pair_verdict, granting, denying, list_first, slot_first, frame_first, frame_verdict, judgement_of, targeted}
use Rattle.judge.specs.Judged.{judged}
use Rattle.judge.specs.Pairs.{pairs_at, first_word, second_word, address_at, mode_at, EachPair, TrueFor}
use Rattle.judge.specs.Laws.Pairs.{pair_true}
use Rattle.clists.specs.Laws.Live.{grants_some}
use Rattle.judge.specs.Laws.First.{says}
use Rattle.judge.specs.Laws.Verdicts.{judged_by}
use Rattle.judge.specs.Laws.Exactly.{refused_when}
use Rattle.judge.specs.declared.Target.{Target}
use Rattle.judge.specs.Search.{Verdict}

-- The Clist at a slot has as many pairs in two tables and stores, and each has the same mode for the object asked for.
pub record SamePairs (t t' : Table) (words words' : List ℕ) (f : Frame) (o o' : Object) (slot : ℕ) : Type 0 where
  pub pairs : pairs_at t words f slot ≡ pairs_at t' words' f slot
  pub modes : (place : ℕ) → place < pairs_at t words f slot → mode_at t words f o slot place ≡ mode_at t' words' f o' slot place

module _ (t t' : Table) (words words' : List ℕ) (f : Frame) where
  slot_same : (test : Verdict → Bool) (o o' : Object) (wanted k : ℕ) → SamePairs t t' words words' f o o' k
      → slot_first test t words f o wanted k ≡ slot_first test t' words' f o' wanted k
  unfolding slot_first list_first pair_verdict
  slot_same test o o' wanted k m =
      first_same _ (λ i. test (says t' words' f o' wanted k i)) (says t words f o wanted k) (says t' words' f o' wanted k) (Ok None) 0 (pairs_at t words f k)
      (λ i a l. ap test (each i (omega arith))) (λ i a l. each i (omega arith))
      ∙ ap (λ n. first (λ i. test (says t' words' f o' wanted k i)) (says t' words' f o' wanted k) (Ok None) 0 n) m.pairs
    where
      each : (i : ℕ) → i < pairs_at t words f k → says t words f o wanted k i ≡ says t' words' f o' wanted k i
      each i l = ap (λ mode. verdict_of mode wanted (address_at f k i)) (m.modes i l)

  first_found_same : (test : Verdict → Bool) (o o' : Object) (wanted : ℕ) → ((k : ℕ) → k < 8 → SamePairs t t' words words' f o o' k)
      → frame_first test t words f o wanted ≡ frame_first test t' words' f o' wanted
  unfolding frame_first
  first_found_same test o o' wanted m =
      first_same _ _ (slot_first test t words f o wanted) (slot_first test t' words' f o' wanted) (Ok None) 0 8
      (λ k a l. ap test (slot_same test o o' wanted k (m k (omega arith)))) (λ k a l. slot_same test o o' wanted k (m k (omega arith)))

  frame_same : (o o' : Object) (wanted : ℕ) → ((k : ℕ) → k < 8 → SamePairs t t' words words' f o o' k)
      → frame_verdict t words f o wanted ≡ frame_verdict t' words' f o' wanted
  unfolding frame_verdict
  frame_same o o' wanted m = rw (first_found_same denying o o' wanted m, first_found_same granting o o' wanted m)

  module _ (target : Target) (wanted : ℕ) where
    -- LOCALITY: where the object asked for stands in both or in neither, and the pairs of each Clist have the same modes for it, the
    -- judgement is the same.
    pub pairs_local : free (targeted t target) ≡ free (targeted t' target)
        → ((slot : ℕ) → slot < 8 → SamePairs t t' words words' f (targeted t target) (targeted t' target) slot)
        → judged t words f target wanted ≡ judged t' words' f target wanted
    pairs_local e m =
        judged_by t words f target wanted
        ∙ rw (e, frame_same (targeted t target) (targeted t' target) wanted m) (sym (judged_by t' words' f target wanted))

    -- The same, where each Clist has the same words: the two objects need give the same mode only to the pairs that stand there.
    pub lists_local : free (targeted t target) ≡ free (targeted t' target)
        → ((slot : ℕ) → slot < 8 → list_at t words f slot ≡ list_at t' words' f slot)
        → ((slot place : ℕ) → slot < 8 → place < pairs_at t words f slot
        → mode_at t words f (targeted t target) slot place ≡ mode_at t words f (targeted t' target) slot place)
        → judged t words f target wanted ≡ judged t' words' f target wanted
    lists_local e same m = pairs_local e (λ k l. record { pairs = rw (same k l); modes = λ i b. m k i l b ∙ rw (same k l) })

    -- The same object and the same words in each Clist give the same judgement.
    pub same_local : targeted t target ≡ targeted t' target → ((slot : ℕ) → slot < 8 → list_at t words f slot ≡ list_at t' words' f slot)
        → judged t words f target wanted ≡ judged t' words' f target wanted
    same_local e same = lists_local (ap free e) same (λ k i l b. rw e)

module _ (t : Table) (words : List ℕ) (f : Frame) (target : Target) (wanted : ℕ) where
  -- Where each pair of each Clist has the mode 0 for the object asked for, there is no grant.
  pub modeless_refused : EachPair t words f (targeted t target) (λ mode. mode ≡ 0) → judged t words f target wanted ≡ None
  modeless_refused h =
      (refused_when t words f target wanted).1
      (λ x. let g = x.in_clist in
      let p = grants_some (mode_at t words f (targeted t target) g.slot g.place) wanted x.some_right x.granting in
      omega (arith, h g.slot g.place g.in_frame g.in_list))

  -- No true pair, no grant.
  pub untrue_refused : ((slot place : ℕ) → slot < 8 → place < pairs_at t words f slot
      → TrueFor (targeted t target) (first_word t words f slot place) (second_word t words f slot place) → ⊥)
      → judged t words f target wanted ≡ None
  untrue_refused h =
      modeless_refused
      (λ i j l m. ⊎_elim (λ z. z) (λ n. absurd (h i j l m (pair_true (targeted t target) _ _ (omega arith)).0))
      (same_or_not (mode_at t words f (targeted t target) i j) 0))

  -- Rule 4: where no object is asked for, there is no grant.
  pub free_refused : free (targeted t target) ≡ true → judged t words f target wanted ≡ None
  free_refused h = (refused_when t words f target wanted).1 (λ x. true≢false (sym h ∙ x.stands))

-- Rule 3: where no right is wanted, there is no grant.
pub none_wanted : (t : Table) (words : List ℕ) (f : Frame) (target : Target) → judged t words f target 0 ≡ None
none_wanted t words f target = (refused_when t words f target 0).1 (λ x. true≢false x.some_right)

-- LOCKS DO NOT MATTER: frames with the same slots are judged alike.
pub slots_local : (t : Table) (words : List ℕ) (f g : Frame) (target : Target) (wanted : ℕ) → f.slots ≡ g.slots → f.count ≡ g.count
    → judged t words f target wanted ≡ judged t words g target wanted
unfolding frame_verdict frame_first slot_first list_at
slots_local t words f g target wanted s n =
    judged_by t words f target wanted
    ∙ (λ i. cond (free (targeted t target) || eqb wanted 0) None
    (judgement_of (frame_verdict t words (record { slots = s i; count = n i; locked = 0; whole = false }) (targeted t target) wanted)))
    ∙ sym (judged_by t words g target wanted)
