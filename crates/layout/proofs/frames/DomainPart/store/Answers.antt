use Rattle.std.proofs.Common.{add_assoc}
use Rattle.codec.specs.Laid.{laid}
use Rattle.layout.specs.Layout.{saved, domain, frame}
use Rattle.layout.proofs.frames.DomainPart.store.Goals as goal

pub returns : goal.returns
unfolding saved domain
returns c = (
  rw (c.store-2.ensures.0, c.store_array.ensures.0, c.store.ensures.0)
      (simp (laid frame, laid saved, add_assoc)),
  (c.store.ensures.1, (c.store_array.ensures.1, c.store-2.ensures.1)),
)
