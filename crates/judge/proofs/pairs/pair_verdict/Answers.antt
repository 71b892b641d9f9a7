use Rattle.judge.specs.Search.{pair_mode, pair_verdict}
use Rattle.judge.proofs.pairs.pair_verdict.Goals as goal

pub returns : goal.returns
unfolding pair_verdict pair_mode
returns c = rw (c.requires.2, ← c.mode_at.ensures) c.verdict_of.ensures
