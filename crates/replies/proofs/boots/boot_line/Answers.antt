use mathlib.Core.Path.{◌≡◌}
use lib.ListN.{length}
use Rattle.replies.specs.Kinds.{boot_told}
use Rattle.replies.proofs.boots.boot_line.Goals as goal

pub returns-in-Ok : goal.returns-in-Ok
returns-in-Ok c = let long : length c.boot-o.result.fields.values ≡ 11 = c.boot-o.type_inv.1.1.1.0.1.1.1.0.1.0.1 in
    boot_told c.args.s c.args.store.now c.args.d c.args.plan c.boot-o.result _ _ _ _ _ c.boot-o.ensures (rw c.in-Ok.is) long c.put_answer-at.ensures.0 c.put_answer-at.ensures.1

pub returns-in-Err : goal.returns-in-Err
returns-in-Err c = let long : length c.boot-o.result.fields.values ≡ 11 = c.boot-o.type_inv.1.1.1.0.1.1.1.0.1.0.1 in
    boot_told c.args.s c.args.store.now c.args.d c.args.plan c.boot-o.result _ _ _ _ _ c.boot-o.ensures (rw c.in-Err.is) long c.put_answer-at.ensures.0 c.put_answer-at.ensures.1
