-- The marked cases, answered: document 01, "The call program" and "Around the edges", with T-07 of document 02.
use Rattle.std.specs.Prelude.{◌≡◌, refl, [], ◌∷◌}
use Rattle.judge.specs.Search.{searched}
use Rattle.calls.specs.Step.{answer_of}
use Rattle.cases.specs.Runs.{answers_by, by_search}
use Rattle.cases.specs.Marked.{listing_boot, computed_after, answers_after_lem, cases, answered, wanted_answers}

computed : (answer_of listing_boot ∷ []) ∷ computed_after searched cases ≡ wanted_answers
unfolding answers_by
computed = refl

-- every marked case is answered as the papers say
pub marked : answered ≡ wanted_answers
marked = rw (answers_after_lem cases) (by_search (λ j. (answer_of listing_boot ∷ []) ∷ computed_after j cases ≡ wanted_answers) computed)
