use Rattle.std.proofs.Common.{◌∙◌, arith, rules}
use Rattle.text.specs.Answer.{no_room, room}
use Rattle.text.proofs.put_line.Goals as goal

pub returns-then-room-values : goal.returns-then-room-values
returns-then-room-values c = no_room c.args.out.now c.args.at c.args.line c.args.answer c.args.values.now (omega arith)

pub returns : goal.returns
returns c = let p = room c.args.out.now c.args.at c.args.line c.args.answer c.args.values.now (omega arith) c.put_line.ensures.put in
    (search (rules, c.put_line.ensures.same_buffer) ∙ p.0, p.1)
