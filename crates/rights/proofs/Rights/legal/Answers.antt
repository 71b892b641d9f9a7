use Rattle.std.proofs.Common.{arith}
use Rattle.rights.specs.Laws.{table_legal, above_illegal}
use Rattle.rights.proofs.Rights.legal.Goals as goal

pub returns-in-Ok : goal.returns-in-Ok
returns-in-Ok c = rw (c.mode_table.ensures, c.from.ensures, c.in-Ok.ensures.1) (table_legal c.args.mode c.in-Ok.ensures.0)

pub returns-in-Err : goal.returns-in-Err
returns-in-Err c = above_illegal c.args.mode (omega (arith, c.in-Err.ensures))
