use Rattle.std.proofs.Common.{lt-ltb, le-ltb}
use Rattle.state.specs.Pages.{in_set}
use Rattle.pages.proofs.in_set.Goals as goal

pub returns-then-a-lt4 : goal.returns-then-a-lt4
unfolding in_set
returns-then-a-lt4 c = rw (lt-ltb _ _ c.if-a-lt4.true)

pub returns-else-a-lt4 : goal.returns-else-a-lt4
unfolding in_set
returns-else-a-lt4 c = rw (le-ltb _ _ c.if-a-lt4.false)
