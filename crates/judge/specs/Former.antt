-- The search as it was before document 02's T-07, when the first granting or denying pair decided (document 01, "How an access is judged",
-- rule 4). Nothing is judged by it: it stands for the law that says which searches T-07 changed (Laws/Changed.antt).
use Rattle.std.specs.Prelude.{ℕ, Bool, true, false, cond, ◌||◌, List, eqb, Option, None, Some, Ok, Err}
use Rattle.state.specs.Extent.{free}
use Rattle.state.specs.declared.Table.{Table}
use Rattle.state.specs.declared.Frame.{Frame}
use Rattle.judge.specs.Search.{frame_first, judgement_of, targeted}
use Rattle.judge.specs.declared.Target.{Target}
use Rattle.judge.specs.Search.{Verdict}

abbrev pub deciding : Verdict → Bool
deciding (Ok (Some at)) = true
deciding (Err d) = true
deciding (Ok None) = false

-- the first pair that decides, by slot and then by place
unfoldable pub formerly_searched : Table → List ℕ → Frame → Target → ℕ → Option ℕ
formerly_searched t words f target wanted =
    cond (free (targeted t target) || eqb wanted 0) None (judgement_of (frame_first deciding t words f (targeted t target) wanted))
