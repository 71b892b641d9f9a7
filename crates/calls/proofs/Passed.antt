-- What a call comes to: it is refused, or passes each check and is done. A refused call changes nothing.
use Rattle.std.specs.Prelude.{ℕ, ◌≡◌, refl, true, List, ◌∷◌, ◌⊎◌, Option, Some, None, Err}
use Rattle.std.proofs.Common.{ap, arith, eqb-true, ltb-true}
use Rattle.std.proofs.Math.Logic.{inl, inr, ⊎_elim}
use Rattle.soundness.specs.Sound.{sound}
use Rattle.judge.specs.Judged.{judged}
use Rattle.calls.specs.Answers.{refusal_number}
use Rattle.calls.specs.View.{World, View, Check, first_failing}
use Rattle.calls.specs.Rules.{early, view, checks}
use Rattle.calls.specs.Step.{done, concluded, store_check, step_by, unchecked_by, step, unchecked}
use Rattle.calls.specs.Laws.Order.{all_checks, AllHold, none_fails}
use Rattle.calls.specs.declared.Call.{Call}
use Rattle.calls.specs.declared.Refusal.{Refusal}
use Rattle.calls.specs.Laws.Passed.{Unchanged, KeptIfRefused, Passes, Refuses, Does}

-- a call whose checks hold passes
passed : (w : World) (d : ℕ) (c : Call) → AllHold (store_check w ∷ checks d c (view judged w d c)) → Passes w d c
unfolding checks early view
passed w d c h =
    let (long, (domain, (range, (unlocks, rest)))) = h in
    record { long = eqb-true _ 8192 long; domain = ltb-true d 4 domain; range = range; unlocks = unlocks; rest = rest }

module _ (w : World) (d : ℕ) (c : Call) where
  -- of any list of checks one fails, or each holds
  cases : (cs : List Check) (v : View)
      → Refuses w (concluded (first_failing cs) w d c v) ⊎ (AllHold cs × (concluded (first_failing cs) w d c v ≡ done w d c v))
  cases cs v = go (first_failing cs) refl
    where
      go : (o : Option Refusal) → first_failing cs ≡ o → Refuses w (concluded o w d c v) ⊎ (AllHold cs × (concluded o w d c v ≡ done w d c v))
      go None e = inr ((none_fails cs).0 e, refl)
      go (Some why) e = inl (why, refl)

  kept : (cs : List Check) (v : View) → KeptIfRefused w (concluded (first_failing cs) w d c v)
  kept cs v why h = go (first_failing cs) h
    where
      go : (o : Option Refusal) → (concluded o w d c v).outcome.answer ≡ Err why → Unchanged w why (concluded o w d c v)
      go None h = let z : ◌≡◌ {A = ℕ} 0 1 = cc in absurd (omega arith)
      go (Some r) h = let e : r ≡ why = cc in record { number = ap refusal_number e; value = refl; fields = refl; state = refl; words = refl }

  -- DEMAND 1: A REFUSED CALL CHANGES NOTHING, with check 3 and without it
  pub refused_changes_nothing : KeptIfRefused w (step w d c) × KeptIfRefused w (unchecked w d c)
  unfolding step_by unchecked_by
  refused_changes_nothing =
      (kept (all_checks w d c) (view judged w d c), kept (store_check w ∷ checks d c (view judged w d c)) (view judged w d c))

  -- a call is refused, or the state is sound, and it passes and is done
  pub step_cases : Refuses w (step w d c) ⊎ ((sound w.state ≡ true) × Does w d c (step w d c))
  unfolding step_by
  step_cases =
      ⊎_elim inl
      (λ t. let (h, e) = t in inr (h.1.0, (passed w d c (h.0, h.1.1), e)))
      (cases (all_checks w d c) (view judged w d c))

  -- with check 3 left out a call is refused, or passes and is done
  pub unchecked_cases : Refuses w (unchecked w d c) ⊎ Does w d c (unchecked w d c)
  unfolding unchecked_by
  unchecked_cases =
      ⊎_elim inl (λ t. let (h, e) = t in inr (passed w d c h, e))
      (cases (store_check w ∷ checks d c (view judged w d c)) (view judged w d c))
