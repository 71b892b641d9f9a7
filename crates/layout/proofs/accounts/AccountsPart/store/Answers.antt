use Rattle.codec.specs.Laid.{laid}
use Rattle.layout.specs.Layout.{four_bytes, accounts}
use Rattle.layout.proofs.accounts.AccountsPart.store.Goals as goal

pub returns : goal.returns
unfolding four_bytes accounts
returns c = (rw (c.store_array-2.ensures.0, c.store_array.ensures.0) (simp (laid four_bytes)), (c.store_array.ensures.1, c.store_array-2.ensures.1))
