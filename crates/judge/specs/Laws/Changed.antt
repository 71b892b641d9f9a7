-- Which searches document 02's T-07 changed: exactly those granted before where a denying pair stands behind the first granting one.
use Rattle.std.specs.Prelude.{ℕ, ◌<◌, ◌≡◌, Bool, true, false, cond, List, ◌↔◌, ◌⊎◌, eqb, Option, Some, None, Ok, Err}
use Rattle.std.proofs.Math.Path.{refl}
use Rattle.std.proofs.Common.{ap, sym, ◌∙◌, true≢false, inl, inr, ⊎_elim, arith}
use Rattle.rights.specs.Modes.{grants, denies}
use Rattle.rights.specs.Laws.{never_both}
use Rattle.state.specs.Extent.{free}
use Rattle.state.specs.declared.Table.{Table}
use Rattle.state.specs.declared.Frame.{Frame}
use Rattle.judge.specs.Search.{the_denial}
use Rattle.judge.specs.Search.{verdict_of, judgement_of, targeted}
use Rattle.judge.specs.Former.{deciding, formerly_searched}
use Rattle.judge.specs.Judged.{judged}
use Rattle.judge.specs.Pairs.{mode_at, Before, NotAfter, PassedOver}
use Rattle.judge.specs.Granting.{PairAt, GrantsAt, GrantsFirst, DeniesAt, Undenied}
use Rattle.judge.specs.Laws.Pairs.{order}
use Rattle.judge.specs.Laws.Verdicts.{first_exactly, tested}
use Rattle.judge.specs.Laws.Exactly.{denied_or_not, granted_exactly, denied_refused}
use Rattle.judge.specs.declared.Target.{Target}

-- a pair does not decide exactly where it is passed over
undecided : (wanted mode at : ℕ) → deciding (verdict_of mode wanted at) ≡ false ↔ PassedOver wanted mode
unfolding verdict_of
undecided wanted mode at = (go (grants mode wanted) (denies mode wanted) refl refl, λ p. rw (p.no_grant, p.no_denial))
  where
    go : (g d : Bool) → grants mode wanted ≡ g → denies mode wanted ≡ d
        → deciding (cond g (Ok (Some at)) (cond d (Err the_denial) (Ok None))) ≡ false → PassedOver wanted mode
    go true d p q x = absurd (true≢false x)
    go false true p q x = absurd (true≢false x)
    go false false p q x = record { no_grant = p; no_denial = q }

-- The object asked for stands, some right is wanted, and the pair at `a` is the first that decides, and grants.
pub record FormerlyAllowed (t : Table) (words : List ℕ) (f : Frame) (target : Target) (wanted a : ℕ) : Type 0 where
  pub stands : free (targeted t target) ≡ false
  pub some_right : eqb wanted 0 ≡ false
  pub pair : GrantsAt t words f (targeted t target) wanted (PassedOver wanted) a

-- The former search grants by the first granting pair, and a denying pair stands behind it in a live list.
pub record DeniedBehind (t : Table) (words : List ℕ) (f : Frame) (target : Target) (wanted : ℕ) : Type 0 where
  pub address : ℕ
  pub granted : formerly_searched t words f target wanted ≡ Some address
  pub pair : GrantsFirst t words f (targeted t target) wanted address
  pub denial_address : ℕ
  pub denial : DeniesAt t words f (targeted t target) wanted denial_address
  pub behind : Before pair.in_clist.slot pair.in_clist.place denial.in_clist.slot denial.in_clist.place

before_frame : (i j slot place : ℕ) → Before i j slot place → slot < 8 → i < 8
before_frame i j slot place (inl b) l = omega arith
before_frame i j slot place (inr b) l = omega (arith, b.0)

module _ (t : Table) (words : List ℕ) (f : Frame) (target : Target) (wanted : ℕ) where
  -- The former search grants by the pair at `a` exactly where that pair is the first that decides, and grants.
  pub formerly_exactly : (a : ℕ) → formerly_searched t words f target wanted ≡ Some a ↔ FormerlyAllowed t words f target wanted a
  unfolding formerly_searched
  formerly_exactly a =
      let exactly = first_exactly deciding refl (λ b. refl) t words f (targeted t target) wanted (PassedOver wanted) (undecided wanted) a in (
        λ h. let x = tested (free (targeted t target)) (eqb wanted 0) _ a h in record { stands = x.0.0; some_right = x.0.1; pair = exactly.0 x.1 },
        λ x. rw (x.stands, x.some_right) (ap judgement_of (exactly.1 x.pair)),
      )

  -- what is granted was granted before, by the same pair
  kept : (a : ℕ) → judged t words f target wanted ≡ Some a → formerly_searched t words f target wanted ≡ Some a
  kept a h =
      let x = (granted_exactly t words f target wanted a).0 h in
      let p = x.pair.in_clist in
      (formerly_exactly a).1
      (record {
        stands = x.stands;
        some_right = x.some_right;
        pair = record {
          in_clist = p;
          granting = x.pair.granting;
          before = λ i j b l.
              record { no_grant = x.pair.before i j b l; no_denial = x.undenied i j (before_frame i j p.slot p.place b p.in_frame) l };
        };
      })

  -- what was granted and is not has a denying pair behind the first granting one
  denied_behind : (a : ℕ) → formerly_searched t words f target wanted ≡ Some a → judged t words f target wanted ≡ None
      → DeniedBehind t words f target wanted
  denied_behind a h r = ⊎_elim (λ d. by d.1 (order _ _ p.slot p.place)) (λ u. absurd (clash (granted u))) (denied_or_not t words f (targeted t target) wanted)
    where
      x : FormerlyAllowed t words f target wanted a
      x = (formerly_exactly a).0 h

      p : PairAt t words f a
      p = x.pair.in_clist

      first : GrantsFirst t words f (targeted t target) wanted a
      first = record { in_clist = p; granting = x.pair.granting; before = λ i j b l. (x.pair.before i j b l).no_grant }

      granted : Undenied t words f (targeted t target) wanted → judged t words f target wanted ≡ Some a
      granted u = (granted_exactly t words f target wanted a).1 (record { stands = x.stands; some_right = x.some_right; pair = first; undenied = u })

      clash : judged t words f target wanted ≡ Some a → ⊥
      clash g = let z : ◌≡◌ {A = ℕ} 0 1 = cc in omega arith

      by : {b : ℕ} (d : DeniesAt t words f (targeted t target) wanted b)
          → NotAfter d.in_clist.slot d.in_clist.place p.slot p.place ⊎ Before p.slot p.place d.in_clist.slot d.in_clist.place
          → DeniedBehind t words f target wanted
      by d (inl (inl z)) = absurd (true≢false (sym d.denying ∙ (x.pair.before _ _ z d.in_clist.in_list).no_denial))
      by d (inl (inr e)) =
          absurd
          (true≢false (sym d.denying ∙ never_both (mode_at t words f (targeted t target) _ _) wanted (rw (e.0, e.1) x.pair.granting)))
      by {b} d (inr z) = record { address = a; granted = h; pair = first; denial_address = b; denial = d; behind = z }

  -- A search that T-07 changed is now refused.
  pub changed_refused : DeniedBehind t words f target wanted → judged t words f target wanted ≡ None
  changed_refused b = denied_refused t words f target wanted b.denial_address b.denial

  changed_or_not : DeniedBehind t words f target wanted ⊎ (judged t words f target wanted ≡ formerly_searched t words f target wanted)
  changed_or_not = go _ _ refl refl
    where
      go : (j k : Option ℕ) → judged t words f target wanted ≡ j → formerly_searched t words f target wanted ≡ k
          → DeniedBehind t words f target wanted ⊎ (judged t words f target wanted ≡ formerly_searched t words f target wanted)
      go (Some a) k e g = inr (e ∙ sym (kept a e))
      go None (Some a) e g = inl (denied_behind a g e)
      go None None e g = inr (e ∙ sym g)

  -- WHAT T-07 CHANGES: the searches that now give something else are exactly those that were granted where a denying pair stands behind
  -- the first granting one.
  pub changed_exactly : (judged t words f target wanted ≡ formerly_searched t words f target wanted → ⊥) ↔ DeniedBehind t words f target wanted
  changed_exactly = (λ h. ⊎_elim (λ b. b) (λ s. absurd (h s)) changed_or_not, λ b s. clash b (sym b.granted ∙ sym s ∙ changed_refused b))
    where
      clash : (b : DeniedBehind t words f target wanted) → Some b.address ≡ None → ⊥
      clash b e = let z : ◌≡◌ {A = ℕ} 0 1 = cc in omega arith

  -- Every other search gives what it gave.
  pub others_same : (DeniedBehind t words f target wanted → ⊥) → judged t words f target wanted ≡ formerly_searched t words f target wanted
  others_same h = ⊎_elim (λ b. absurd (h b)) (λ s. s) changed_or_not
