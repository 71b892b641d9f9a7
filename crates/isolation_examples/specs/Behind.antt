-- The premise on searched lists reads lists up to their ends: document 02, T-01. A member's list has a pair behind its end that is true
-- for an outside object in one run and not in the other, and the claim applies to the two runs all the same.
use Rattle.std.specs.Prelude.{◌/◌, ◌≡◌, refl, Bool, false, List, [], ◌∷◌, get_or}
use Rattle.judge.specs.Judged.{judged}
use Rattle.calls.specs.View.{Judging}
use Rattle.cases.specs.Runs.{Exchange, by, by_search}
use Rattle.calls.specs.declared.Call.TheVariants.{OnStore, OnObject}
use Rattle.calls.specs.declared.Access.TheVariants.{Read, Write, Lookup}
use Rattle.calls.specs.declared.ObjectCall.TheVariants.{Create}
use Rattle.isolation.specs.Runs.{members_calls}
use Rattle.isolation.specs.Premises.{stays_inside}
use Rattle.isolation.specs.Claim.{Isolated}
use Rattle.isolation.proofs.Theorem.{isolation}
use Rattle.isolation_examples.specs.Tests.{all_true, trace_of}
use Rattle.isolation_examples.specs.Decided.{tests_hold}
use Rattle.isolation_examples.specs.Compared.{all_same, comparing}
use Rattle.isolation_examples.specs.Shown.{Told, run_of, Shown, by_computing, told, done, refuses}
use Rattle.isolation_examples.specs.Needed.{alone}

-- domain 1 leaves its second pair zero, writes the capability for page 1 behind it, and is judged
abbrev pub members_part : List Exchange
members_part =
    by 1 (OnStore (Write 2052 256)) done
    ∷ by 1 (OnStore (Write 2053 21)) done
    ∷ by 1 (OnStore (Read 64)) (refuses 7)
    ∷ by 1 (OnStore (Lookup 2048 15)) (0 ∷ 2048 ∷ [])
    ∷ []

-- in one run the outsider creates that page, with that password
abbrev pub behind : Told
behind = told (by 0 (OnObject (Create 1 1 21 0)) done ∷ members_part)

abbrev pub behind' : Told
behind' = told members_part

-- every premise's test is true, and every part of the conclusion is the same
pub behind_shown : Shown alone behind behind' all_true all_same
unfolding comparing
behind_shown = by_computing alone behind behind' all_true all_same (record { answered = refl; answered' = refl; tested = refl; compared = refl })

-- whether the pair at words 2052 and 2053 is true for no outside object at the end of the first run
abbrev pub behind_stays : Judging → Bool
behind_stays judging =
    let w = (trace_of judging alone (run_of behind)).last in
    stays_inside alone w.state.table (get_or w.words 2052 0 / 256) (get_or w.words 2053 0)

-- it is true for one: the premise would be broken if the list had it
pub behind_true : behind_stays judged ≡ false
unfolding comparing
behind_true = by_search (λ j. behind_stays j ≡ false) refl

-- so the theorem says of these runs that the member saw and ended with the same
pub behind_isolated : Isolated alone (run_of behind) (run_of behind')
unfolding comparing
behind_isolated = isolation alone (run_of behind) (run_of behind') (tests_hold alone (run_of behind) (run_of behind') behind_shown.tested same_calls)
  where
    same_calls : members_calls alone (run_of behind) ≡ members_calls alone (run_of behind')
    same_calls = refl
