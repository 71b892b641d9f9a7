-- What the verdict on a pair tells of its mode, the first granting pair by modes, and the judgement by the search.
use Rattle.std.specs.Prelude.{ℕ, ◌<◌, ◌≡◌, refl, Bool, true, false, cond, ◌||◌, List, ◌↔◌, eqb, Some, None, Ok, Err}
use Rattle.std.proofs.Math.Path.{ap}
use Rattle.std.proofs.Common.{sym, ◌∙◌, true≢false, arith}
use Rattle.std.proofs.Math.Logic.{⊎_elim}
use Rattle.rights.specs.Modes.{grants, denies}
use Rattle.rights.specs.Laws.{never_both}
use Rattle.state.specs.Extent.{free}
use Rattle.state.specs.declared.Object.{Object}
use Rattle.state.specs.declared.Table.{Table}
use Rattle.state.specs.declared.Frame.{Frame}
use Rattle.clists.specs.Laws.Lists.{list_alive}
use Rattle.judge.specs.Search.{the_denial}
use Rattle.judge.specs.Search.{verdict_of, pair_verdict, granting, denying, frame_first, frame_verdict, judgement_of, targeted, searched}
use Rattle.judge.specs.Judged.{judged}
use Rattle.judge.specs.Judged.Inside.{judged_is}
use Rattle.judge.specs.Pairs.{pairs_at, mode_at, address_at}
use Rattle.judge.specs.Granting.{PairAt, GrantsAt}
use Rattle.judge.specs.Laws.First.{FirstPasses, frame_cases, frame_at, frame_none}
use Rattle.judge.specs.declared.Target.{Target}
use Rattle.judge.specs.Search.{Verdict}

-- a verdict grants as the mode does,
pub granting_is : (mode wanted at : ℕ) → granting (verdict_of mode wanted at) ≡ grants mode wanted
unfolding verdict_of
granting_is mode wanted at = go (grants mode wanted) (denies mode wanted)
  where
    go : (g d : Bool) → granting (cond g (Ok (Some at)) (cond d (Err the_denial) (Ok None))) ≡ g
    go true d = refl
    go false true = refl
    go false false = refl

-- and denies as it does
pub denying_is : (mode wanted at : ℕ) → denying (verdict_of mode wanted at) ≡ denies mode wanted
unfolding verdict_of
denying_is mode wanted at = go (grants mode wanted) (denies mode wanted) (never_both mode wanted)
  where
    go : (g d : Bool) → (g ≡ true → d ≡ false) → denying (cond g (Ok (Some at)) (cond d (Err the_denial) (Ok None))) ≡ d
    go true d h = sym (h refl)
    go false true h = refl
    go false false h = refl

granted_verdict : (mode wanted at : ℕ) → grants mode wanted ≡ true → verdict_of mode wanted at ≡ Ok (Some at)
unfolding verdict_of
granted_verdict mode wanted at h = rw h

verdict_granted : (mode wanted at a : ℕ) → verdict_of mode wanted at ≡ Ok (Some a) → (a ≡ at) × (grants mode wanted ≡ true)
verdict_granted mode wanted at a h =
    let g : grants mode wanted ≡ true = sym (granting_is mode wanted at) ∙ ap granting h in
    (same (sym (granted_verdict mode wanted at g) ∙ h), g)
  where
    same : ◌≡◌ {A = Verdict} (Ok (Some at)) (Ok (Some a)) → a ≡ at
    same e = cc

-- a pair of the frame is one of a live slot's Clist
abbrev pub pair_at : (t : Table) (words : List ℕ) (f : Frame) (slot place : ℕ) → slot < 8 → place < pairs_at t words f slot → (a : ℕ) → a ≡ address_at f slot place
    → PairAt t words f a
pair_at t words f slot place k l a e =
    let alive = list_alive t words f slot (omega arith) in
    record { slot = slot; place = place; in_frame = k; in_use = alive.0; alive = alive.1; in_list = l; address = e }

-- A grant is found exactly at a granting pair such that those before it fail the test: `Earlier` says of their modes what that means.
module _ (test : Verdict → Bool) (unheard : test (Ok None) ≡ false) (heard : (a : ℕ) → test (Ok (Some a)) ≡ true)
    (t : Table) (words : List ℕ) (f : Frame) (o : Object) (wanted : ℕ) (Earlier : ℕ → Type 0)
    (fails : (mode at : ℕ) → test (verdict_of mode wanted at) ≡ false ↔ Earlier mode) where
  pub first_exactly : (a : ℕ) → frame_first test t words f o wanted ≡ Ok (Some a) ↔ GrantsAt t words f o wanted Earlier a
  unfolding pair_verdict
  first_exactly a = (
    λ h. ⊎_elim (λ d. found d h) (λ n. absurd (true≢false (sym (heard a) ∙ ap test (sym h ∙ frame_none test unheard t words f o wanted n) ∙ unheard)))
        (frame_cases test unheard t words f o wanted),
    λ g. frame_at test unheard t words f o wanted _ (passes g),
  )
    where
      found : {v : Verdict} → FirstPasses test t words f o wanted v → v ≡ Ok (Some a) → GrantsAt t words f o wanted Earlier a
      found d h =
          let v = verdict_granted (mode_at t words f o d.slot d.place) wanted _ a (d.there ∙ h) in
          record {
            in_clist = pair_at t words f d.slot d.place d.in_frame d.in_list a v.0;
            granting = v.1;
            before = λ i j b l. (fails _ _).0 (d.before i j b l);
          }

      passes : GrantsAt t words f o wanted Earlier a → FirstPasses test t words f o wanted (Ok (Some a))
      passes g =
          let p = g.in_clist in
          let e = granted_verdict (mode_at t words f o p.slot p.place) wanted (address_at f p.slot p.place) g.granting in
          record {
            slot = p.slot;
            place = p.place;
            in_frame = p.in_frame;
            in_list = p.in_list;
            there = e ∙ ap (λ n. Ok (Some n)) (sym p.address);
            passing = ap test e ∙ heard _;
            before = λ i j b l. (fails _ _).1 (g.before i j b l);
          }

-- a judgement that grants is that of a verdict that does
pub grant_verdict : (v : Verdict) (a : ℕ) → judgement_of v ≡ Some a → v ≡ Ok (Some a)
grant_verdict (Ok (Some b)) a h = let z : b ≡ a = cc in ap (λ n. Ok (Some n)) z
grant_verdict (Err d) a h = let z : ◌≡◌ {A = ℕ} 0 1 = cc in absurd (omega arith)
grant_verdict (Ok None) a h = let z : ◌≡◌ {A = ℕ} 0 1 = cc in absurd (omega arith)

-- behind the tests for an object and a right, a judgement grants as the verdict does
pub tested : (x y : Bool) (v : Verdict) (a : ℕ) → cond (x || y) None (judgement_of v) ≡ Some a
    → ((x ≡ false) × (y ≡ false)) × (v ≡ Ok (Some a))
tested true y v a e = let z : ◌≡◌ {A = ℕ} 0 1 = cc in absurd (omega arith)
tested false true v a e = let z : ◌≡◌ {A = ℕ} 0 1 = cc in absurd (omega arith)
tested false false v a e = ((refl, refl), grant_verdict v a e)

-- the judgement by the search
pub judged_by : (t : Table) (words : List ℕ) (f : Frame) (target : Target) (wanted : ℕ)
    → judged t words f target wanted
    ≡ cond (free (targeted t target) || eqb wanted 0) None (judgement_of (frame_verdict t words f (targeted t target) wanted))
unfolding searched
judged_by t words f target wanted = ap (λ j. j t words f target wanted) judged_is
