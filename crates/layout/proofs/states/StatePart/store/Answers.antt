use Rattle.std.proofs.Common.{add_assoc}
use Rattle.codec.specs.Laid.{laid}
use Rattle.layout.specs.Layout.{domains, state, table}
use Rattle.layout.proofs.states.StatePart.store.Goals as goal

pub returns : goal.returns
unfolding domains state
returns c = (
  rw (c.store-2.ensures.0, c.store_array.ensures.0, c.store.ensures.0)
      (simp (laid table, laid domains, add_assoc)),
  (c.store.ensures.1, (c.store_array.ensures.1, c.store-2.ensures.1)),
)
