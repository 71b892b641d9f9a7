use Rattle.std.proofs.Common.{◌≡◌, ◌<◌, ◌-◌, length, take, drop, take_all, length-take, length-drop, refl, sym, ◌∙◌, arith}
use Rattle.std.proofs.lemmas.Bool.{eqb-false}
use Rattle.stream.specs.Room.{feed_moves}
use Rattle.turns.proofs.Partway.{Partway, partway_on, begun_part}
use Rattle.turns.proofs.answer_piece.Goals as goal
use Rattle.turns.proofs.answer_piece.Goals.{After-feed_piece-g}

further : (c : After-feed_piece-g)
    → Partway c.args.f c.args.store.now c.args.piece.now (drop c.feed_piece-g.result.taken c.loop-rest.rest.now) c.feed_piece-g.result c.feed_piece-g.new.store
further c = partway_on c.loop-rest.out c.feed_piece-g.result _ c.feed_piece-g.new.out c.loop-rest.invariant.partway c.feed_piece-g.ensures.out_after

pub returns-then-is_err-clause-begun : goal.returns-then-is_err-clause-begun
returns-then-is_err-clause-begun c = begun_part (further (goal.at.returns-then-is_err-clause-begun c).After-feed_piece-g)

pub loop-rest-smaller : goal.loop-rest-smaller
loop-rest-smaller c =
    let r = c.feed_piece-g.result in
    let rest = c.loop-rest.rest.now in
    let q = c.feed_piece-g.ensures.taken_in_bounds in
    let some : 0 < length rest = omega (arith, eqb-false _ _ (sym c.is_empty.ensures ∙ c.loop-rest-test.true)) in
    let moves : 0 < r.taken =
    feed_moves _ rest (length c.loop-rest.out) r _ _ refl (omega (arith, c.loop-rest.invariant.room)) some c.feed_piece-g.ensures.out_after
    (omega (arith, c.feed_piece-g.auto.out)) q.2 q.1
    in
    simp (length-take, length-drop) (omega (arith, moves, some, q.0))

pub loop-rest-preserved : goal.loop-rest-preserved
loop-rest-preserved c =
    let n = c.feed_piece-g.result.taken in
    let rest = c.loop-rest.rest.now in
    let all : take (length rest - n) (drop n rest) ≡ drop n rest = take_all _ _ (omega (arith, length-drop n rest)) in
    record {
      room = omega (arith, c.feed_piece-g.auto.out);
      partway = rw all (further (goal.at.loop-rest-preserved c).After-feed_piece-g);
    }
