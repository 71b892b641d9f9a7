use Rattle.std.proofs.Common.{◌≡◌, [], length, arith}
use Rattle.stream.specs.Run.{last_line}
use Rattle.stream.specs.Turns.{finish_writes}
use Rattle.monitor.proofs.put_last.Goals as goal

pub returns : goal.returns
unfolding last_line
returns c =
    let long : length c.args.f.line ≡ 201 = omega (arith, c.well_formed) in
    (rw (c.finish.ensures.0, c.finish.ensures.1) (finish_writes c.args.f [] c.args.out.now long c.requires), c.finish.ensures.2)
