use Rattle.std.proofs.Common.{drop-drop, add_assoc}
use Rattle.layout.specs.Layout.{saved, domain}
use Rattle.layout.proofs.frames.DomainPart.load.Goals as goal

pub returns : goal.returns
unfolding saved domain
returns c = rw (c.load.ensures, c.load_array.ensures, c.load-2.ensures) (simp (drop-drop, add_assoc))
