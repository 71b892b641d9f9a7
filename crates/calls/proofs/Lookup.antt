-- LK at the door: by which pair it is done. Document 02, T-07: a granted lookup gives the first granting pair.
use Rattle.std.specs.Prelude.{ℕ, ◌≡◌, true, ◌⊎◌, ◌↔◌, Option, Some, Ok}
use Rattle.std.proofs.Common.{sym, ap, ◌∙◌, inl, inr, arith}
use Rattle.state.specs.Places.{domain_at}
use Rattle.soundness.specs.Sound.{sound}
use Rattle.judge.specs.Judged.{judged}
use Rattle.judge.specs.Laws.Exactly.{granted_exactly, granted_when}
use Rattle.judge.specs.declared.Target.TheVariants.{Address}
use Rattle.calls.specs.Answers.{number_of}
use Rattle.calls.specs.View.{World}
use Rattle.calls.specs.Rules.{rule, view}
use Rattle.calls.specs.Step.{step}
use Rattle.calls.specs.Authority.{answered, Reaches, GrantableTo}
use Rattle.calls.specs.Laws.Order.{refusal_number_lem}
use Rattle.calls.specs.Laws.Passed.{Refuses, Does}
use Rattle.calls.proofs.Passed.{step_cases}
use Rattle.calls.specs.Laws.Granted.{lookup_done}
use Rattle.calls.specs.declared.Call.{Call}
use Rattle.calls.specs.declared.Call.TheVariants.{OnStore}
use Rattle.calls.specs.declared.Access.TheVariants.{Lookup}
use Rattle.calls.specs.Laws.Lookup.{FirstGranting}

module _ (w : World) (d a r : ℕ) where
  abbrev lookup : Call
  lookup = OnStore (Lookup a r)

  abbrev judgement : Option ℕ
  judgement = judged w.state.table w.words (domain_at w.state d).active (Address a) r

  -- a done LK gives the pair of its judgement
  gives : (pair : ℕ) → judgement ≡ Some pair → answered w d lookup ≡ 0 → (step w d lookup).outcome.answer ≡ Ok pair
  unfolding rule view
  gives pair e n = go (step_cases w d lookup)
    where
      go : Refuses w (step w d lookup) ⊎ ((sound w.state ≡ true) × Does w d lookup (step w d lookup)) → (step w d lookup).outcome.answer ≡ Ok pair
      go (inl (why, q)) = absurd (omega (arith, refusal_number_lem why, rw q at n))
      go (inr (_, (_, q))) = rw (q, e)

  -- LK IS DONE WITH A VALUE exactly where it comes to be judged and that is the address of the first granting pair
  pub lookup_first : (value : ℕ) → (step w d lookup).outcome.answer ≡ Ok value ↔ (Reaches w d lookup × FirstGranting w d a r value)
  lookup_first value = (to, from)
    where
      exactly : (pair : ℕ) → judgement ≡ Some pair ↔ FirstGranting w d a r pair
      exactly = granted_exactly w.state.table w.words (domain_at w.state d).active (Address a) r

      grantable : ((pair : ℕ) × (judgement ≡ Some pair)) ↔ GrantableTo w d (Address a) r
      grantable = granted_when w.state.table w.words (domain_at w.state d).active (Address a) r

      to : (step w d lookup).outcome.answer ≡ Ok value → Reaches w d lookup × FirstGranting w d a r value
      to h =
          let n : answered w d lookup ≡ 0 = ap number_of h in
          let (comes, g) = (lookup_done w d a r).0 n in
          let (pair, e) = grantable.1 g in
          let same : Ok value ≡ Ok pair = sym h ∙ gives pair e n in
          let k : value ≡ pair = cc in
          (comes, rw k ((exactly pair).0 e))

      from : Reaches w d lookup × FirstGranting w d a r value → (step w d lookup).outcome.answer ≡ Ok value
      from (comes, x) =
          let e = (exactly value).1 x in
          gives value e ((lookup_done w d a r).1 (comes, grantable.0 (value, e)))
