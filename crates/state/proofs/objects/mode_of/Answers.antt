use Rattle.state.specs.Lookup.{mode_of}
use Rattle.state.proofs.objects.mode_of.Goals as goal

pub returns-then-word-g : goal.returns-then-word-g
unfolding mode_of
returns-then-word-g c = rw c.if-word-g.true

pub returns : goal.returns
unfolding mode_of
returns c = rw c.if-word-g.false c.ordinary_mode.ensures
