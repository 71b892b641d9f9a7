use Rattle.std.proofs.Common.{add_assoc}
use Rattle.codec.specs.Laid.{laid}
use Rattle.codec.specs.Number.{byte}
use Rattle.layout.specs.Layout.{slots, frame}
use Rattle.layout.proofs.frames.FramePart.store.Goals as goal

pub returns : goal.returns
unfolding slots frame
returns c = (
  rw (c.store-3.ensures.0, c.store-2.ensures.0, c.store.ensures.0, c.store_array.ensures.0)
      (simp (laid slots, laid byte, add_assoc)),
  (c.store_array.ensures.1, (c.store.ensures.1, (c.store-2.ensures.1, c.store-3.ensures.1))),
)
