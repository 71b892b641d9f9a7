use Rattle.std.proofs.Common.{drop-drop}
use Rattle.layout.specs.Layout.{password}
use Rattle.layout.proofs.objects.PasswordPart.load.Goals as goal

pub returns : goal.returns
unfolding password
returns c = rw (c.load.ensures, c.load-2.ensures) (simp drop-drop)
