-- The order of the checks: document 01, "In checking order", with 14 and 15 behind 9 (document 02, T-05). The places never fall, and the first
-- check that fails answers. What follows for whole lists of checks stands in proofs/Order.antt.
use Rattle.std.specs.Prelude.{ℕ, zero, suc, ◌<◌, ◌≤◌, ◌≡◌, refl, Bool, true, false, ◌&&◌, List, [], ◌∷◌, ◌++◌, ◌↔◌, leb, Option, Some, None, Ok, Err}
use Rattle.std.proofs.Common.{sym, ap, subst, ◌∙◌, true≢false, arith, leb-true, le-leb}
use mathlib.Core.Logic.Iff
use Rattle.bounded.specs.Bools.{and_left, and_right, and_both}
use Rattle.judge.specs.Judged.{judged}
use Rattle.calls.specs.Answers.{refusal_number, refusal_place, refusals, numbered, number_of}
use Rattle.calls.specs.View.{World, View, Check, check, first_failing}
use Rattle.calls.specs.Rules.{rule, view, checks}
use Rattle.calls.specs.Step.{step_by, step, concluded, store_check, sound_check}
use Rattle.calls.specs.declared.Call.{Call}
use Rattle.calls.specs.declared.Call.TheVariants.{OnStore, OnObject, OnDomain}
use Rattle.calls.specs.declared.Access.TheVariants.{Read, Write, Execute, Lookup}
use Rattle.calls.specs.declared.ObjectCall.TheVariants.{Create, Delete, AddPassword, DropPassword, Register}
use Rattle.calls.specs.declared.DomainCall.TheVariants.{Insert, Remove, Get, Lock, PdxCall, PdxReturn}
use Rattle.calls.specs.declared.Refusal.{Refusal}
use Rattle.calls.specs.declared.Refusal.TheVariants.{StoreLength, Unsound, NoDomain, OutOfRange, Locked, NotGranted, NotEntry, NoRun, NotPermitted, LimitPassed, HasPassword, Full, Missing}
use Rattle.calls.specs.Answers.{Answer}

-- the checks of a call, from 2 on
abbrev pub all_checks : World → ℕ → Call → List Check
all_checks w d c = store_check w ∷ sound_check w ∷ checks d c (view judged w d c)

-- no place in the list is below `n`, or below one before it
unfoldable pub ascending : ℕ → List Check → Bool
ascending n [] = true
ascending n (check r holds ∷ cs) = leb n (refusal_place r) && ascending (refusal_place r) cs

-- a lower place may stand before such a list
pub ascends_from : (m n : ℕ) (cs : List Check) → m ≤ n → ascending n cs ≡ true → ascending m cs ≡ true
unfolding ascending
ascends_from m n [] l h = refl
ascends_from m n (check r holds ∷ cs) l h =
    let k = leb-true n (refusal_place r) (and_left _ _ h) in
    and_both (le-leb m (refusal_place r) (omega arith)) (and_right (leb n (refusal_place r)) _ h)

-- after check 7 the places are later ones, and never fall, whatever is read
pub rest_ascends : (d : ℕ) (c : Call) (v : View) → ascending (suc (refusal_place NotGranted)) ((rule c).rest d v) ≡ true
unfolding ascending rule
rest_ascends d (OnStore (Read a)) v = refl
rest_ascends d (OnStore (Write a x)) v = refl
rest_ascends d (OnStore (Execute a)) v = refl
rest_ascends d (OnStore (Lookup a r)) v = refl
rest_ascends d (OnObject (Create p n k a)) v = refl
rest_ascends d (OnObject (Delete b)) v = refl
rest_ascends d (OnObject (AddPassword b k m)) v = refl
rest_ascends d (OnObject (DropPassword b k)) v = refl
rest_ascends d (OnObject (Register b k l es)) v = refl
rest_ascends d (OnDomain (Insert i l)) v = refl
rest_ascends d (OnDomain (Remove i)) v = refl
rest_ascends d (OnDomain Get) v = refl
rest_ascends d (OnDomain (Lock i)) v = refl
rest_ascends d (OnDomain (PdxCall a ch)) v = refl
rest_ascends d (OnDomain PdxReturn) v = refl

-- each check of the list holds
abbrev pub AllHold : List Check → Type 0
AllHold [] = Unit {0}
AllHold (check r holds ∷ cs) = (holds ≡ true) × AllHold cs

-- a check fails that answers `why`, and each check before it holds
pub record FailsFirst (cs : List Check) (why : Refusal) : Type 0 where
  pub before : List Check
  pub after : List Check
  pub split : cs ≡ before ++ (check why false ∷ after)
  pub hold : AllHold before

-- each check of the list that fails has the place `n` or a later one
abbrev pub FailFrom : ℕ → List Check → Type 0
FailFrom n [] = Unit {0}
FailFrom n (check r holds ∷ cs) = (holds ≡ false → n ≤ refusal_place r) × FailFrom n cs

-- none fails exactly where each holds
pub none_fails : (cs : List Check) → first_failing cs ≡ None ↔ AllHold cs
none_fails cs = (to cs, from cs)
  where
    to : (cs : List Check) → first_failing cs ≡ None → AllHold cs
    to [] h = tt
    to (check r true ∷ cs) h = (refl, to cs h)
    to (check r false ∷ cs) h = let z : ◌≡◌ {A = ℕ} 0 1 = cc in absurd (omega arith)

    from : (cs : List Check) → AllHold cs → first_failing cs ≡ None
    from [] h = refl
    from (check r holds ∷ cs) h = rw h.0 (from cs h.1)

-- the first failing check is one before which each holds
pub first_fails : (cs : List Check) (why : Refusal) → first_failing cs ≡ Some why ↔ FailsFirst cs why
first_fails cs why = (to cs, λ f. subst (λ (l : List Check). first_failing l ≡ Some why) (sym f.split) (from f.before f.after f.hold))
  where
    to : (cs : List Check) → first_failing cs ≡ Some why → FailsFirst cs why
    to [] h = let z : ◌≡◌ {A = ℕ} 0 1 = cc in absurd (omega arith)
    to (check r true ∷ cs) h =
        let f = to cs h in
        record { before = check r true ∷ f.before; after = f.after; split = ap (λ l. check r true ∷ l) f.split; hold = (refl, f.hold) }
    to (check r false ∷ cs) h = let e : r ≡ why = cc in record { before = []; after = cs; split = rw e; hold = tt }

    from : (before after : List Check) → AllHold before → first_failing (before ++ (check why false ∷ after)) ≡ Some why
    from [] after h = refl
    from (check r holds ∷ before) after h = rw h.0 (from before after h.1)

ascend_from : (m n : ℕ) (cs : List Check) → m ≤ n → ascending n cs ≡ true → FailFrom m cs
unfolding ascending
ascend_from m n [] l h = tt
ascend_from m n (check r holds ∷ cs) l h =
    let k = leb-true n (refusal_place r) (and_left _ _ h) in
    (λ e. omega arith, ascend_from m (refusal_place r) cs (omega arith) (and_right (leb n (refusal_place r)) _ h))

-- where the places never fall, the first failing check has the earliest place of those that fail
pub first_earliest : (n : ℕ) (cs : List Check) (why : Refusal) → ascending n cs ≡ true → first_failing cs ≡ Some why → FailFrom (refusal_place why) cs
unfolding ascending
first_earliest n [] why a h = tt
first_earliest n (check r true ∷ cs) why a h =
    (λ e. absurd (true≢false e), first_earliest (refusal_place r) cs why (and_right (leb n (refusal_place r)) _ a) h)
first_earliest n (check r false ∷ cs) why a h =
    let e : r ≡ why = cc in
    let k : refusal_place why ≤ refusal_place r = rw e (omega arith) in
    (λ f. k, ascend_from (refusal_place why) (refusal_place r) cs k (and_right (leb n (refusal_place r)) _ a))

-- a refusal is found by its number
pub number_back : (r : Refusal) → numbered (refusal_number r) refusals ≡ Some r
number_back StoreLength = refl
number_back Unsound = refl
number_back NoDomain = refl
number_back OutOfRange = refl
number_back Locked = refl
number_back NotGranted = refl
number_back NotEntry = refl
number_back NoRun = refl
number_back NotPermitted = refl
number_back LimitPassed = refl
number_back HasPassword = refl
number_back Full = refl
number_back Missing = refl

-- so two refusals never share a number,
pub numbers_differ : (r q : Refusal) → refusal_number r ≡ refusal_number q → r ≡ q
numbers_differ r q h = let e : Some r ≡ Some q = sym (number_back r) ∙ ap (λ n. numbered n refusals) h ∙ number_back q in cc

-- and none has that of a done call
pub refusal_number_lem : (r : Refusal) → 0 < refusal_number r
refusal_number_lem r = go (refusal_number r) (number_back r)
  where
    go : (n : ℕ) → numbered n refusals ≡ Some r → 0 < n
    go zero h = let z : ◌≡◌ {A = ℕ} 0 1 = cc in absurd (omega arith)
    go (suc n) h = omega arith

-- what is answered where no check fails, and where one does
pub record Answering (answer : Option Refusal → Answer) : Type 0 where
  pub value : ℕ
  pub done : answer None ≡ Ok value
  pub refused : (r : Refusal) → answer (Some r) ≡ Err r

module _ {answer : Option Refusal → Answer} (a : Answering answer) where
  -- such an answer is a refusal exactly where a check fails, and by it
  pub answers_refused : (o : Option Refusal) (why : Refusal) → answer o ≡ Err why ↔ o ≡ Some why
  answers_refused o why = (to o, λ e. ap answer e ∙ a.refused why)
    where
      to : (o : Option Refusal) → answer o ≡ Err why → o ≡ Some why
      to None h = let e = a.done in let z : ◌≡◌ {A = ℕ} 0 1 = cc in absurd (omega arith)
      to (Some r) h = let e = a.refused r in cc

  -- and the number 0 exactly where none fails
  pub answers_done : (o : Option Refusal) → number_of (answer o) ≡ 0 ↔ o ≡ None
  answers_done o = (to o, λ e. ap (λ x. number_of (answer x)) e ∙ ap number_of a.done)
    where
      to : (o : Option Refusal) → number_of (answer o) ≡ 0 → o ≡ None
      to None h = refl
      to (Some r) h = absurd (omega (arith, refusal_number_lem r, rw (a.refused r) at h))

module _ (w : World) (d : ℕ) (c : Call) where
  answering : Answering (λ o. (concluded o w d c (view judged w d c)).outcome.answer)
  answering = record { value = _; done = refl; refused = λ r. refl }

  pub step_refused : (why : Refusal) → (step w d c).outcome.answer ≡ Err why ↔ first_failing (all_checks w d c) ≡ Some why
  unfolding step_by
  step_refused why = answers_refused answering (first_failing (all_checks w d c)) why

  -- THE FIRST FAILING CHECK ANSWERS: a call is refused exactly where a check of that number fails and each check before it holds
  pub refused_first : (why : Refusal) → (step w d c).outcome.answer ≡ Err why ↔ FailsFirst (all_checks w d c) why
  refused_first why = Iff.trans (step_refused why) (first_fails (all_checks w d c) why)

  -- it is done exactly where each check holds
  pub done_hold : number_of (step w d c).outcome.answer ≡ 0 ↔ AllHold (all_checks w d c)
  unfolding step_by
  done_hold = Iff.trans (answers_done answering (first_failing (all_checks w d c))) (none_fails (all_checks w d c))
