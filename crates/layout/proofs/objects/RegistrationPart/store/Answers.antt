use Rattle.std.proofs.Common.{add_assoc}
use Rattle.codec.specs.Laid.{laid}
use Rattle.codec.specs.Number.{number, byte}
use Rattle.layout.specs.Layout.{entries, registration, capability}
use Rattle.layout.proofs.objects.RegistrationPart.store.Goals as goal

pub returns : goal.returns
unfolding entries registration
returns c = (
  rw (c.store_array.ensures.0, c.store-3.ensures.0, c.store-2.ensures.0, c.store.ensures.0)
      (simp (laid (number 8), laid capability, laid byte, add_assoc)),
  (c.store.ensures.1, (c.store-2.ensures.1, (c.store-3.ensures.1, c.store_array.ensures.1))),
)
