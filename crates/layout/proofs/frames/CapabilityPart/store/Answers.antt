use Rattle.codec.specs.Laid.{laid}
use Rattle.codec.specs.Number.{byte}
use Rattle.layout.specs.Layout.{capability}
use Rattle.layout.proofs.frames.CapabilityPart.store.Goals as goal

pub returns : goal.returns
unfolding capability
returns c = (rw (c.store-2.ensures.0, c.store.ensures.0) (simp (laid byte)), (c.store.ensures.1, c.store-2.ensures.1))
