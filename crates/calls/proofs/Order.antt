-- The order of the checks, from check 7 on, of a whole call, and of its answer: no check that fails has an earlier place than the one that answers.
use Rattle.std.specs.Prelude.{ℕ, suc, ◌≡◌, true, List, ◌∷◌, ◌++◌, Option, Some, None, Err}
use Rattle.std.proofs.Common.{arith}
use Rattle.judge.specs.Judged.{judged}
use Rattle.calls.specs.Answers.{refusal_place}
use Rattle.calls.specs.View.{World, Want, nothing, rights, View, Check}
use Rattle.calls.specs.Rules.{rule, wanted, presented, granted_check, presented_check, view, early, late, checks}
use Rattle.calls.specs.Step.{step, store_check, sound_check}
use Rattle.calls.specs.declared.Call.{Call}
use Rattle.calls.specs.declared.Presented.{Presented}
use Rattle.calls.specs.declared.Refusal.{Refusal}
use Rattle.calls.specs.declared.Refusal.TheVariants.{StoreLength, Locked, NotGranted}
use Rattle.calls.specs.Laws.Order.{all_checks, ascending, ascends_from, rest_ascends, FailFrom, first_earliest, step_refused}

-- from check 7 on the places never fall either
pub late_ascends : (d : ℕ) (c : Call) (v : View) → ascending (refusal_place NotGranted) (late d c v) ≡ true
unfolding ascending late
late_ascends d c v = from_seven (wanted c) (presented c) ((rule c).rest d v) (rest_ascends d c v)
  where
    from_seven : (want : Want) (presents : Option Presented) (cs : List Check) → ascending (suc (refusal_place NotGranted)) cs ≡ true
        → ascending (refusal_place NotGranted) (granted_check want v ++ presented_check presents v ++ cs) ≡ true
    from_seven nothing None cs h = ascends_from (refusal_place NotGranted) (suc (refusal_place NotGranted)) cs (omega arith) h
    from_seven nothing (Some l) cs h = ascends_from (refusal_place NotGranted) (suc (refusal_place NotGranted)) cs (omega arith) h
    from_seven (rights target r) None cs h = ascends_from (refusal_place NotGranted) (suc (refusal_place NotGranted)) cs (omega arith) h
    from_seven (rights target r) (Some l) cs h = ascends_from (refusal_place NotGranted) (suc (refusal_place NotGranted)) cs (omega arith) h

-- THE CHECKS COME IN THE PAPER'S ORDER, whatever is read
pub checks_ascend : (w : World) (d : ℕ) (c : Call) (v : View) → ascending (refusal_place StoreLength) (store_check w ∷ sound_check w ∷ checks d c v) ≡ true
unfolding ascending checks early
checks_ascend w d c v = ascends_from (refusal_place Locked) (refusal_place NotGranted) (late d c v) (omega arith) (late_ascends d c v)

module _ (w : World) (d : ℕ) (c : Call) where
  -- THE EARLIEST PLACE ANSWERS: no check that fails has an earlier one
  pub earliest_answers : (why : Refusal) → (step w d c).outcome.answer ≡ Err why → FailFrom (refusal_place why) (all_checks w d c)
  earliest_answers why h = first_earliest (refusal_place StoreLength) (all_checks w d c) why (checks_ascend w d c (view judged w d c)) ((step_refused w d c why).0 h)
