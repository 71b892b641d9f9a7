-- The paper's numbers of what a call hands back, answer by answer: document 01, "The forms we expect", the last sentence.
use Rattle.std.specs.Prelude.{ℕ, zero, suc, ◌+◌, ◌<◌, ◌≤◌, ◌≡◌, refl, true, false, cond, List, [], ◌∷◌, ◌⊎◌, ltb, eqb, take, Ok, Err}
use Rattle.std.proofs.Common.{ap, ◌∙◌, inl, inr, arith, lt-ltb, ne_eqb}
use Rattle.bounded.specs.Fill.{tabulate}
use Rattle.state.specs.Places.{slot_at, domain_at}
use Rattle.soundness.specs.Sound.{sound}
use Rattle.soundness.specs.Laws.DomainParts.{frame_parts, domain_parts}
use Rattle.soundness.specs.Laws.StateParts.{state_parts}
use Rattle.judge.specs.Judged.{judged}
use Rattle.calls.specs.Answers.{refusal_number, number_of, no_fields}
use Rattle.calls.specs.View.{World, View}
use Rattle.calls.specs.Changes.{flag, frame_fields}
use Rattle.calls.specs.Rules.{rule, fields, view}
use Rattle.calls.specs.Step.{answer_of, step}
use Rattle.calls.specs.Laws.Order.{refusal_number_lem}
use Rattle.calls.specs.Laws.Passed.{Refuses, Does}
use Rattle.calls.proofs.Passed.{refused_changes_nothing, step_cases}
use Rattle.calls.specs.declared.Call.{Call}
use Rattle.calls.specs.declared.Call.TheVariants.{OnStore, OnObject, OnDomain}
use Rattle.calls.specs.declared.Access.TheVariants.{Read, Write, Execute, Lookup}
use Rattle.calls.specs.declared.ObjectCall.TheVariants.{Create, Delete, AddPassword, DropPassword, Register}
use Rattle.calls.specs.declared.DomainCall.TheVariants.{Insert, Remove, Get, Lock, PdxCall, PdxReturn}
use Rattle.calls.specs.declared.Refusal.{Refusal}
use Rattle.calls.specs.Laws.Numbers.{unchanged_numbers, is_get, frame_numbers}

-- REFUSED: the refusal's number, and the value 0
pub refused_numbers : (w : World) (d : ℕ) (c : Call) (why : Refusal) → (step w d c).outcome.answer ≡ Err why
    → answer_of (step w d c) ≡ refusal_number why ∷ 0 ∷ []
refused_numbers w d c why h = unchanged_numbers w why (step w d c) ((refused_changes_nothing w d c).0 why h)

-- no other call has fields
only_get : (c : Call) (v : View) → is_get c ≡ false → fields c v ≡ no_fields
unfolding rule
only_get (OnStore (Read a)) v n = refl
only_get (OnStore (Write a x)) v n = refl
only_get (OnStore (Execute a)) v n = refl
only_get (OnStore (Lookup a r)) v n = refl
only_get (OnObject (Create p k q a)) v n = refl
only_get (OnObject (Delete b)) v n = refl
only_get (OnObject (AddPassword b k m)) v n = refl
only_get (OnObject (DropPassword b k)) v n = refl
only_get (OnObject (Register b k l es)) v n = refl
only_get (OnDomain (Insert i l)) v n = refl
only_get (OnDomain (Remove i)) v n = refl
only_get (OnDomain Get) v n = let z : ◌≡◌ {A = ℕ} 0 1 = cc in absurd (omega arith)
only_get (OnDomain (Lock i)) v n = refl
only_get (OnDomain (PdxCall a ch)) v n = refl
only_get (OnDomain PdxReturn) v n = refl

-- DONE: 0, and the value
pub done_numbers : (w : World) (d : ℕ) (c : Call) (value : ℕ) → is_get c ≡ false → (step w d c).outcome.answer ≡ Ok value
    → answer_of (step w d c) ≡ 0 ∷ value ∷ []
done_numbers w d c value n h = go (step_cases w d c)
  where
    go : Refuses w (step w d c) ⊎ ((sound w.state ≡ true) × Does w d c (step w d c)) → answer_of (step w d c) ≡ 0 ∷ value ∷ []
    go (inl (why, e)) = absurd (omega (arith, refusal_number_lem why, ap number_of (rw e at h)))
    go (inr (_, (_, e))) = rw (h, ap (λ r. r.outcome.fields) e ∙ only_get c (view judged w d c) n)

-- the first n places of a longer row, place by place
cut : (n m : ℕ) (f g : ℕ → ℕ) → n ≤ m → ((k : ℕ) → k < n → f k ≡ g k) → take n (tabulate m f) ≡ tabulate n g
cut zero m f g l h = refl
cut (suc n) zero f g l h = absurd (omega arith)
cut (suc n) (suc m) f g l h = rw (h 0 (omega arith)) (ap (λ t. g 0 ∷ t) (cut n m (λ k. f (suc k)) (λ k. g (suc k)) (omega arith) (λ k u. h (suc k) (omega arith))))

-- three fields and n more are told, whatever the value is
three : (n x y z : ℕ) (xs told : List ℕ) → cond (eqb (3 + n) 0) told (take (3 + n) (x ∷ y ∷ z ∷ xs)) ≡ x ∷ y ∷ z ∷ take n xs
three n x y z xs told = let more : 3 + n ≡ suc (suc (suc n)) = omega arith in rw (ne_eqb (3 + n) 0 (λ e. omega arith), more)

-- A DONE GT: 0, how many slots, how many of them locked, the whole lock as 1 or 0, then the page of each slot
pub get_numbers : (w : World) (d value : ℕ) → (step w d (OnDomain Get)).outcome.answer ≡ Ok value
    → answer_of (step w d (OnDomain Get)) ≡ 0 ∷ frame_numbers (domain_at w.state d).active
unfolding rule view frame_fields
get_numbers w d value h = go (step_cases w d (OnDomain Get))
  where
    go : Refuses w (step w d (OnDomain Get)) ⊎ ((sound w.state ≡ true) × Does w d (OnDomain Get) (step w d (OnDomain Get)))
        → answer_of (step w d (OnDomain Get)) ≡ 0 ∷ frame_numbers (domain_at w.state d).active
    go (inl (why, e)) = absurd (omega (arith, refusal_number_lem why, ap number_of (rw e at h)))
    go (inr (s, (p, e))) =
        let f = (domain_at w.state d).active in
        let fits = (frame_parts f (domain_parts _ ((state_parts w.state s).domain d p.domain)).active).fits in
        let pages = cut f.count 8 (λ k. cond (ltb k f.count) (slot_at f k).page 0) (λ k. (slot_at f k).page) fits (λ k l. rw (lt-ltb k f.count l)) in
        ap answer_of e
        ∙ ap (λ t. 0 ∷ t) (three f.count f.count f.locked (flag f.whole) _ _ ∙ ap (λ t. f.count ∷ f.locked ∷ flag f.whole ∷ t) pages)
