use borrow.Author.Tests.{lt-ltb, le-ltb}
use Rattle.state.specs.Update.{save_domain}
use Rattle.updates.proofs.domains.save_domain.Goals as goal

pub returns-then-n-ge4 : goal.returns-then-n-ge4
unfolding save_domain
returns-then-n-ge4 c = rw (le-ltb _ _ c.if-n-ge4.true)

pub returns : goal.returns
unfolding save_domain
returns c = rw (lt-ltb _ _ c.if-n-ge4.false)
