use Rattle.std.proofs.Common.{drop-drop, add_assoc}
use Rattle.layout.specs.Layout.{entries, registration}
use Rattle.layout.proofs.objects.RegistrationPart.load.Goals as goal

pub returns : goal.returns
unfolding entries registration
returns c = rw (c.load.ensures, c.load-2.ensures, c.load-3.ensures, c.load_array.ensures) (simp (drop-drop, add_assoc))
