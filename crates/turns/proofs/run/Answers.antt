use Rattle.std.proofs.Common.{arith}
use Rattle.std.proofs.lemmas.Result.{err_from_is_err_and}
use Rattle.turns.specs.Led.{reached_begun}
use Rattle.turns.proofs.run.Goals as goal

pub returns-in_err-f-clause-reached : goal.returns-in_err-f-clause-reached
returns-in_err-f-clause-reached c =
    let p = err_from_is_err_and c.from_residual.result c.from_residual.ensures.1 in
    rw (p.1, p.2) (reached_begun c.loop.invariant.reached c.in_err-f.ensures.begun)

pub loop-preserved : goal.loop-preserved
loop-preserved c = record {
  piece_room = omega (arith, c.read_some.auto.piece);
  out_room = omega (arith, c.answer_piece.auto.out);
  reached = reached_begun c.loop.invariant.reached c.in_ok-f.ensures.begun;
}
