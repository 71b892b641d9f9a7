use Rattle.codec.specs.Laid.{laid}
use Rattle.codec.specs.Number.{number}
use Rattle.layout.specs.Layout.{password}
use Rattle.layout.proofs.objects.PasswordPart.store.Goals as goal

pub returns : goal.returns
unfolding password
returns c = (rw (c.store-2.ensures.0, c.store.ensures.0) (simp (laid (number 8))), (c.store.ensures.1, c.store-2.ensures.1))
