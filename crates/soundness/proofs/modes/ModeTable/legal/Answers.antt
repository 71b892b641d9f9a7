use mathlib.Core.Path.{◌≡◌}
use native.Mathlib.Omega.{arith}
use Rattle.rights.specs.Table.{mode_table}
use Rattle.rights.specs.Laws.{table_legal}
use Rattle.soundness.proofs.modes.ModeTable.legal.Goals as goal

pub returns : goal.returns
returns c = let h : c.args.self.now.entries ≡ mode_table = c.args.self.now.whole in rw (h, table_legal c.args.mode (omega arith))
