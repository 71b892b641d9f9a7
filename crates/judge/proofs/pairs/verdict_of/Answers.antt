use Rattle.judge.specs.Search.{verdict_of}
use Rattle.judge.proofs.pairs.verdict_of.Goals as goal

pub returns-then-grants : goal.returns-then-grants
unfolding verdict_of
returns-then-grants c = rw (← c.grants.ensures, c.if-grants.true)

pub returns-then-denies : goal.returns-then-denies
unfolding verdict_of
returns-then-denies c = rw (← c.grants.ensures, c.if-grants.false, ← c.denies.ensures, c.if-denies.true)

pub returns : goal.returns
unfolding verdict_of
returns c = rw (← c.grants.ensures, c.if-grants.false, ← c.denies.ensures, c.if-denies.false)
