-- Exactly when an access is granted, and when it is refused: document 01, "How an access is judged", rules 2 to 4, and document 02, T-07.
use Rattle.std.specs.Prelude.{ℕ, ◌<◌, Bool, List, ◌↔◌, ◌⊎◌, eqb, Option, Some, None, Ok, Err}
use Rattle.std.proofs.Math.Path.{◌≡◌, refl, sym}
use Rattle.std.proofs.Common.{ap, ◌∙◌, true≢false, arith}
use Rattle.std.proofs.Math.Bool.{true, false, cond}
use Rattle.std.proofs.Math.Logic.{inl, inr, ⊎_elim}
use Rattle.rights.specs.Modes.{grants}
use Rattle.state.specs.Extent.{free}
use Rattle.state.specs.declared.Object.{Object}
use Rattle.state.specs.declared.Table.{Table}
use Rattle.state.specs.declared.Frame.{Frame}
use Rattle.judge.specs.Search.{the_denial}
use Rattle.judge.specs.Search.{pair_verdict, granting, denying, frame_first, frame_verdict, judgement_of, targeted}
use Rattle.judge.specs.Judged.{judged}
use Rattle.judge.specs.Pairs.{pairs_at, mode_at, address_at, EachPair}
use Rattle.judge.specs.Granting.{GrantsFirst, DeniesAt, Undenied, Grantable, Allowed}
use Rattle.judge.specs.Laws.First.{FirstPasses, NonePasses, frame_cases, frame_none}
use Rattle.judge.specs.Laws.Verdicts.{granting_is, denying_is, pair_at, first_exactly, tested, judged_by}
use Rattle.judge.specs.declared.Target.{Target}
use Rattle.judge.specs.Search.{Verdict}

module _ (t : Table) (words : List ℕ) (f : Frame) (o : Object) (wanted : ℕ) where
  -- the first granting pair
  granted_first : (a : ℕ) → frame_first granting t words f o wanted ≡ Ok (Some a) ↔ GrantsFirst t words f o wanted a
  granted_first =
      first_exactly granting refl (λ a. refl) t words f o wanted _ (λ mode at. (λ h. sym (granting_is mode wanted at) ∙ h, λ h. granting_is mode wanted at ∙ h))

  -- no verdict denies where no mode does
  none_denies : NonePasses denying t words f o wanted ↔ Undenied t words f o wanted
  unfolding pair_verdict
  none_denies = (λ n i j k l. sym (denying_is _ wanted _) ∙ n i j k l, λ u i j k l. denying_is _ wanted _ ∙ u i j k l)

  -- some pair denies, or none does
  pub denied_or_not : ((a : ℕ) × DeniesAt t words f o wanted a) ⊎ Undenied t words f o wanted
  unfolding pair_verdict
  denied_or_not = ⊎_elim (λ d. inl (_, denies_at d)) (λ n. inr (none_denies.0 n)) (frame_cases denying refl t words f o wanted)
    where
      denies_at : {v : Verdict} (d : FirstPasses denying t words f o wanted v) → DeniesAt t words f o wanted (address_at f d.slot d.place)
      denies_at d =
          record {
            in_clist = pair_at t words f d.slot d.place d.in_frame d.in_list _ refl;
            denying = sym (denying_is _ wanted _) ∙ d.passing;
          }

  undenied_exactly : denying (frame_first denying t words f o wanted) ≡ false ↔ Undenied t words f o wanted
  undenied_exactly = (
    λ h. ⊎_elim (λ d. absurd (true≢false (sym d.passing ∙ ap denying d.there ∙ h))) none_denies.0 (frame_cases denying refl t words f o wanted),
    λ u. ap denying (frame_none denying refl t words f o wanted (none_denies.1 u)),
  )

  verdict_exactly : (a : ℕ) → frame_verdict t words f o wanted ≡ Ok (Some a) ↔ (GrantsFirst t words f o wanted a × Undenied t words f o wanted)
  unfolding frame_verdict
  verdict_exactly a = (
    go (denying (frame_first denying t words f o wanted)) refl,
    λ g. rw (undenied_exactly.1 g.1) ((granted_first a).1 g.0),
  )
    where
      go : (b : Bool) → denying (frame_first denying t words f o wanted) ≡ b
          → cond b (Err the_denial) (frame_first granting t words f o wanted) ≡ Ok (Some a) → GrantsFirst t words f o wanted a × Undenied t words f o wanted
      go true e h = let z : ◌≡◌ {A = ℕ} 0 1 = cc in absurd (omega arith)
      go false e h = ((granted_first a).0 h, undenied_exactly.0 e)

  -- where some pair grants, one of them is the first
  some_first : (slot place : ℕ) → slot < 8 → place < pairs_at t words f slot → grants (mode_at t words f o slot place) wanted ≡ true
      → (a : ℕ) × GrantsFirst t words f o wanted a
  unfolding pair_verdict
  some_first slot place k l h =
      ⊎_elim (λ d. first d) (λ n. absurd (true≢false (sym h ∙ sym (granting_is _ wanted _) ∙ n slot place k l))) (frame_cases granting refl t words f o wanted)
    where
      first : {v : Verdict} (d : FirstPasses granting t words f o wanted v) → (a : ℕ) × GrantsFirst t words f o wanted a
      first d = (
        address_at f d.slot d.place,
        record {
          in_clist = pair_at t words f d.slot d.place d.in_frame d.in_list _ refl;
          granting = sym (granting_is _ wanted _) ∙ d.passing;
          before = λ i j b m. sym (granting_is _ wanted _) ∙ d.before i j b m;
        },
      )

module _ (t : Table) (words : List ℕ) (f : Frame) (target : Target) (wanted : ℕ) where
  -- BY WHICH PAIR: the judgement grants by the pair at `a` exactly where that pair is the first that grants, and no pair anywhere denies.
  pub granted_exactly : (a : ℕ) → judged t words f target wanted ≡ Some a ↔ Allowed t words f target wanted a
  granted_exactly a = (
    λ h. allowed (tested (free (targeted t target)) (eqb wanted 0) _ a (sym (judged_by t words f target wanted) ∙ h)),
    λ x.
        judged_by t words f target wanted
        ∙ rw (x.stands, x.some_right) (ap judgement_of ((verdict_exactly t words f (targeted t target) wanted a).1 (x.pair, x.undenied))),
  )
    where
      allowed : ((free (targeted t target) ≡ false) × (eqb wanted 0 ≡ false)) × (frame_verdict t words f (targeted t target) wanted ≡ Ok (Some a))
          → Allowed t words f target wanted a
      allowed h =
          let v = (verdict_exactly t words f (targeted t target) wanted a).0 h.1 in
          record { stands = h.0.0; some_right = h.0.1; pair = v.0; undenied = v.1 }

  -- DEMAND 2, as T-07 has it: access is granted exactly where some granting pair stands in a live list, and no denying pair anywhere.
  pub granted_when : ((a : ℕ) × (judged t words f target wanted ≡ Some a)) ↔ Grantable t words f target wanted
  granted_when = (λ g. grantable g.0 ((granted_exactly g.0).0 g.1), granted)
    where
      grantable : (a : ℕ) → Allowed t words f target wanted a → Grantable t words f target wanted
      grantable a x =
          let p = x.pair in
          record {
            stands = x.stands;
            some_right = x.some_right;
            address = a;
            in_clist = p.in_clist;
            granting = p.granting;
            undenied = x.undenied;
          }

      granted : Grantable t words f target wanted → (a : ℕ) × (judged t words f target wanted ≡ Some a)
      granted x =
          let p = x.in_clist in
          let g = some_first t words f (targeted t target) wanted p.slot p.place p.in_frame p.in_list x.granting in
          (g.0, (granted_exactly g.0).1 (record { stands = x.stands; some_right = x.some_right; pair = g.1; undenied = x.undenied }))

  -- It is refused exactly where that is not so.
  pub refused_when : judged t words f target wanted ≡ None ↔ (Grantable t words f target wanted → ⊥)
  refused_when = (
    λ h x. let (a, e) = granted_when.1 x in let z : ◌≡◌ {A = ℕ} 0 1 = cc in omega arith,
    refused _ refl,
  )
    where
      refused : (j : Option ℕ) → judged t words f target wanted ≡ j → (Grantable t words f target wanted → ⊥)
          → judged t words f target wanted ≡ None
      refused (Some a) e h = absurd (h (granted_when.0 (a, e)))
      refused None e h = e

  -- A DENYING PAIR WINS FROM ANY PLACE: where one stands in a live list, the judgement refuses.
  pub denied_refused : (a : ℕ) → DeniesAt t words f (targeted t target) wanted a → judged t words f target wanted ≡ None
  denied_refused a d =
      let p = d.in_clist in
      refused_when.1 (λ x. true≢false (sym d.denying ∙ x.undenied p.slot p.place p.in_frame p.in_list))

  -- Where no pair grants, the judgement refuses.
  pub ungranted_refused : EachPair t words f (targeted t target) (λ mode. grants mode wanted ≡ false) → judged t words f target wanted ≡ None
  ungranted_refused h =
      refused_when.1 (λ x. let p = x.in_clist in true≢false (sym x.granting ∙ h p.slot p.place p.in_frame p.in_list))
