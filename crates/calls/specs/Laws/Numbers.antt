-- The paper's numbers of what a call hands back, answer by answer: document 01, "The forms we expect", the last sentence.
use Rattle.std.specs.Prelude.{ℕ, ◌≡◌, Bool, true, false, List, [], ◌∷◌, Err}
use Rattle.std.proofs.Common.{ap}
use Rattle.bounded.specs.Fill.{tabulate}
use Rattle.state.specs.Places.{empty_state, slot_at}
use Rattle.state.specs.declared.Frame.{Frame}
use Rattle.calls.specs.Answers.{refusal_number, number_of, values_of}
use Rattle.calls.specs.View.{World}
use Rattle.calls.specs.Changes.{flag}
use Rattle.calls.specs.Step.{Result, world, result_of, answer_of}
use Rattle.calls.specs.Boot.{boot}
use Rattle.calls.specs.Laws.Passed.{Unchanged}
use Rattle.calls.specs.Laws.Booted.{boot_refused, boot_done}
use Rattle.calls.specs.declared.Call.{Call}
use Rattle.calls.specs.declared.Call.TheVariants.{OnStore, OnObject, OnDomain}
use Rattle.calls.specs.declared.DomainCall.TheVariants.{Insert, Remove, Get, Lock, PdxCall, PdxReturn}
use Rattle.calls.specs.declared.Refusal.{Refusal}
use Rattle.calls.specs.declared.Outcome.{Outcome}

-- THE NUMBERS OF AN OUTCOME, as `apply` and `boot` promise it, are those of the definition: `step` or `boot`
pub answer_numbers : (o : Outcome) (words : List ℕ) (r : Result) → result_of o words ≡ r → (number_of o.answer ∷ values_of o) ≡ answer_of r
answer_numbers o words r h = ap answer_of h

pub unchanged_numbers : (w : World) (why : Refusal) (r : Result) → Unchanged w why r → answer_of r ≡ refusal_number why ∷ 0 ∷ []
unchanged_numbers w why r u = rw (u.fields, u.number, u.value)

-- BT: the refusal's number and the value 0 where it is refused, and else 0 twice
pub boot_refused_numbers : (words : List ℕ) (d : ℕ) (plan : List ℕ) (why : Refusal) → (boot words d plan).outcome.answer ≡ Err why
    → answer_of (boot words d plan) ≡ refusal_number why ∷ 0 ∷ []
boot_refused_numbers words d plan why h = unchanged_numbers (world empty_state words) why (boot words d plan) (boot_refused words d plan why h)

pub boot_done_numbers : (words : List ℕ) (d : ℕ) (plan : List ℕ) → number_of (boot words d plan).outcome.answer ≡ 0
    → answer_of (boot words d plan) ≡ 0 ∷ 0 ∷ []
boot_done_numbers words d plan h = ap answer_of (boot_done words d plan h)

-- GT, the call whose values are the fields of the caller's frame
abbrev pub is_get : Call → Bool
is_get (OnStore c) = false
is_get (OnObject c) = false
is_get (OnDomain (Insert i l)) = false
is_get (OnDomain (Remove i)) = false
is_get (OnDomain Get) = true
is_get (OnDomain (Lock i)) = false
is_get (OnDomain (PdxCall a ch)) = false
is_get (OnDomain PdxReturn) = false

-- what a done GT answers: 0, how many slots, how many of them locked, the whole lock as 1 or 0, then the page of each slot
abbrev pub frame_numbers : Frame → List ℕ
frame_numbers f = f.count ∷ f.locked ∷ flag f.whole ∷ tabulate f.count (λ k. (slot_at f k).page)
