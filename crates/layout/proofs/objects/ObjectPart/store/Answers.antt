use Rattle.std.proofs.Common.{add_assoc}
use Rattle.codec.specs.Laid.{laid}
use Rattle.codec.specs.Number.{byte}
use Rattle.layout.specs.Layout.{passwords, object, registration}
use Rattle.layout.proofs.objects.ObjectPart.store.Goals as goal

pub returns : goal.returns
unfolding passwords object
returns c = (
  rw (c.store-4.ensures.0, c.store-3.ensures.0, c.store_array.ensures.0, c.store-2.ensures.0, c.store.ensures.0)
      (simp (laid byte, laid passwords, laid registration, add_assoc)),
  (c.store.ensures.1, (c.store-2.ensures.1, (c.store_array.ensures.1, (c.store-3.ensures.1, c.store-4.ensures.1)))),
)
