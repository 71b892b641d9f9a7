use Rattle.std.proofs.Common.{drop-drop, add_assoc}
use Rattle.layout.specs.Layout.{four_bytes, accounts}
use Rattle.layout.proofs.accounts.AccountsPart.load.Goals as goal

pub returns : goal.returns
unfolding four_bytes accounts
returns c = rw (c.load_array.ensures, c.load_array-2.ensures) (simp (drop-drop, add_assoc))
