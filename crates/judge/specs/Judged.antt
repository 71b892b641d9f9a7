-- The judgement, shut: the crates above know it by the promise of the code and by its laws alone.
pub mod Inside
use Rattle.std.specs.Prelude.{ℕ, List, Option}
use Rattle.state.specs.declared.Table.{Table}
use Rattle.state.specs.declared.Frame.{Frame}
use Rattle.judge.specs.Search.{searched}
use Rattle.judge.specs.declared.Target.{Target}

-- the judgement on a target: by the object table, the words of the store and the caller's frame
pub judged : Table → List ℕ → Frame → Target → ℕ → Option ℕ
judged = searched
