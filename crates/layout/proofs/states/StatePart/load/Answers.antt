use Rattle.std.proofs.Common.{drop-drop, add_assoc}
use Rattle.layout.specs.Layout.{domains, state}
use Rattle.layout.proofs.states.StatePart.load.Goals as goal

pub returns : goal.returns
unfolding domains state
returns c = rw (c.load.ensures, c.load_array.ensures, c.load-2.ensures) (simp (drop-drop, add_assoc))
