-- Lists of checks by the places of their refusals: which refusal a list answers where its checks come in order, and so a call.
use Rattle.std.specs.Prelude.{ℕ, suc, ◌<◌, ◌≤◌, ◌≡◌, true, false, List, [], ◌∷◌, ◌++◌, ◌↔◌, leb, ltb, Option, Some, None}
use Rattle.std.proofs.Math.Path.{refl}
use Rattle.std.proofs.Common.{sym, ap, ◌∙◌, true≢false, arith, leb-true, eqb-true, eq-eqb, ltb-true, lt-ltb}
use mathlib.Core.Logic.Iff
use Rattle.bounded.specs.Bools.{and_left, and_right}
use Rattle.state.specs.Places.{domain_at}
use Rattle.judge.specs.Judged.{judged}
use Rattle.calls.specs.Answers.{refusal_number, refusal_place, number_of}
use Rattle.calls.specs.View.{World, Check, check, first_failing}
use Rattle.calls.specs.Rules.{in_range, unlocked, view}
use Rattle.calls.specs.Step.{step_by, concluded, store_check, sound_check}
use Rattle.calls.specs.Authority.{answered, Comes}
use Rattle.calls.specs.Laws.Order.{all_checks, AllHold, ascending, ascends_from, numbers_differ, refusal_number_lem}
use Rattle.calls.specs.declared.Call.{Call}
use Rattle.calls.specs.declared.Refusal.{Refusal}
use Rattle.calls.specs.declared.Refusal.TheVariants.{NoDomain, OutOfRange, Locked}

-- all of two lists hold exactly where all of each do
pub all_append : (xs ys : List Check) → AllHold (xs ++ ys) ↔ (AllHold xs × AllHold ys)
all_append [] ys = (λ h. (tt, h), λ h. h.1)
all_append (check r holds ∷ xs) ys =
    let more = all_append xs ys in
    (λ h. let t = more.0 h.1 in ((h.0, t.0), t.1), λ h. (h.0.0, more.1 (h.0.1, h.1)))

-- the number that a list of checks is answered with
abbrev pub number : Option Refusal → ℕ
number None = 0
number (Some r) = refusal_number r

-- it is a refusal's exactly where that refusal is the first
pub number_first : (o : Option Refusal) (why : Refusal) → number o ≡ refusal_number why ↔ o ≡ Some why
number_first None why = (λ h. absurd (omega (arith, refusal_number_lem why)), λ h. let z : ◌≡◌ {A = ℕ} 0 1 = cc in absurd (omega arith))
number_first (Some r) why = (λ h. ap Some (numbers_differ r why h), λ h. ap number h)

-- each check of the list has a place before `n`; answers `why`
abbrev pub Below : ℕ → List Check → Type 0
Below n [] = Unit {0}
Below n (check r holds ∷ cs) = (refusal_place r < n) × Below n cs

abbrev pub Level : Refusal → List Check → Type 0
Level why [] = Unit {0}
Level why (check r holds ∷ cs) = (r ≡ why) × Level why cs

-- past checks of earlier places `why` is answered exactly where these hold and the later checks answer it
pub past_earlier : (why : Refusal) (front back : List Check) → Below (refusal_place why) front
    → first_failing (front ++ back) ≡ Some why ↔ (AllHold front × (first_failing back ≡ Some why))
past_earlier why [] back b = (λ h. (tt, h), λ h. h.1)
past_earlier why (check r true ∷ front) back b =
    let more = past_earlier why front back b.1 in
    (λ h. let t = more.0 h in ((refl, t.0), t.1), λ h. more.1 (h.0.1, h.1))
past_earlier why (check r false ∷ front) back b =
    (λ h. let e : r ≡ why = cc in absurd (omega (arith, b.0, ap refusal_place e)), λ h. absurd (true≢false (sym h.0.0)))

-- where the places are `n` or later, such a one is answered
from_above : (n : ℕ) (why : Refusal) (cs : List Check) → ascending n cs ≡ true → first_failing cs ≡ Some why → n ≤ refusal_place why
unfolding ascending
from_above n why [] a h = let z : ◌≡◌ {A = ℕ} 0 1 = cc in absurd (omega arith)
from_above n why (check r true ∷ cs) a h =
    let m = leb-true n (refusal_place r) (and_left _ _ a) in
    from_above n why cs (ascends_from n (refusal_place r) cs m (and_right (leb n (refusal_place r)) _ a)) h
from_above n why (check r false ∷ cs) a h =
    let e : r ≡ why = cc in omega (arith, leb-true n (refusal_place r) (and_left _ _ a), ap refusal_place e)

-- checks that answer `why`, with later ones of later places, answer it exactly where they do not all hold
pub level_fails : (why : Refusal) (same back : List Check) → Level why same → ascending (suc (refusal_place why)) back ≡ true
    → first_failing (same ++ back) ≡ Some why ↔ (AllHold same → ⊥)
level_fails why [] back l a = (λ h. absurd (omega (arith, from_above (suc (refusal_place why)) why back a h)), λ h. absurd (h tt))
level_fails why (check r true ∷ same) back l a =
    let more = level_fails why same back l.1 a in (λ h t. more.0 h t.1, λ h. more.1 (λ t. h (refl, t)))
level_fails why (check r false ∷ same) back l a = (λ h t. true≢false (sym t.0), λ h. ap Some l.0)

module _ (w : World) (d : ℕ) (c : Call) where
  -- a call is answered with the number of the first check that fails
  pub step_number : answered w d c ≡ number (first_failing (all_checks w d c))
  unfolding step_by
  step_number = go (first_failing (all_checks w d c))
    where
      go : (o : Option Refusal) → number_of (concluded o w d c (view judged w d c)).outcome.answer ≡ number o
      go None = refl
      go (Some r) = refl

  -- and so with that of `why` exactly where the checks of earlier places hold, and those that answer `why` do not all
  pub answers_level : (why : Refusal) (front same back : List Check) → all_checks w d c ≡ front ++ (same ++ back) → Below (refusal_place why) front → Level why same
      → ascending (suc (refusal_place why)) back ≡ true → answered w d c ≡ refusal_number why ↔ (AllHold front × (AllHold same → ⊥))
  answers_level why front same back e b l a =
      let s = step_number ∙ ap (λ cs. number (first_failing cs)) e in
      Iff.trans (λ h. sym s ∙ h, λ h. s ∙ h)
      (Iff.trans (number_first (first_failing (front ++ (same ++ back))) why)
      (Iff.trans (past_earlier why front (same ++ back) b) (Iff.and Iff.rfl (level_fails why same back l a))))

  -- checks 2 to 5, and check 6
  abbrev pub to_five : List Check
  to_five = store_check w ∷ sound_check w ∷ check NoDomain (ltb d 4) ∷ check OutOfRange (in_range c) ∷ []

  abbrev pub six : List Check
  six = check Locked (unlocked c (domain_at w.state d).active) ∷ []

  pub comes_hold : AllHold to_five ↔ Comes w d c
  comes_hold = (
    λ h. let (long, (right, (domain, (range, _)))) = h in record { long = eqb-true _ 8192 long; sound_state = right; domain = ltb-true d 4 domain; range = range },
    λ r. (eq-eqb _ 8192 r.long, (r.sound_state, (lt-ltb d 4 r.domain, (r.range, tt)))),
  )
