use mathlib.Core.Path.{refl}
use Rattle.rights.specs.Table.{mode_table}
use Rattle.rights.proofs.table.mode_table.Statement.{statement}
use Rattle.rights.proofs.table.mode_table.Tie as tie

-- the one test of the table: both sides are computed, entry by entry
pub mode_table_spec : {M : Type 1} → statement M
unfolding mode_table
mode_table_spec = tie.close (tie.spec (λ c. refl))
