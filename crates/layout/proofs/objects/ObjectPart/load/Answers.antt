use Rattle.std.proofs.Common.{drop-drop, add_assoc}
use Rattle.layout.specs.Layout.{passwords, object}
use Rattle.layout.proofs.objects.ObjectPart.load.Goals as goal

pub returns : goal.returns
unfolding passwords object
returns c = rw (c.load.ensures, c.load-2.ensures, c.load_array.ensures, c.load-3.ensures, c.load-4.ensures) (simp (drop-drop, add_assoc))
