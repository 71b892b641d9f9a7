-- Locks, as computed runs behind the listing of document 01.
use Rattle.std.specs.Prelude.{◌≡◌, refl}
use Rattle.judge.specs.Search.{searched}
use Rattle.cases.specs.Runs.{answers_by}
use Rattle.cases.specs.Marked.{answers_after, expected_after, computed_after, by_computing}
use Rattle.cases.specs.Locks.{lock_runs}

computed : computed_after searched lock_runs ≡ expected_after lock_runs
unfolding answers_by
computed = refl

pub locks : answers_after lock_runs ≡ expected_after lock_runs
locks = by_computing lock_runs computed
