use Rattle.std.proofs.Common.{arith}
use Rattle.layout.proofs.Arrays.{loaded_none, loaded_more, loaded_all}
use Rattle.layout.proofs.Bytes.{place_fits}
use Rattle.layout.proofs.parts.load_array.Goals as goal

pub overflow_mul-SIZE : goal.overflow_mul-SIZE
overflow_mul-SIZE g c = rw c.SIZE.ensures (omega (arith, place_fits g.row.N g.T.Part.SIZE c.loop-i.i c.args.at _ c.loop-i-test.true c.requires))

pub overflow_add-at : goal.overflow_add-at
overflow_add-at g c = rw c.SIZE.ensures (omega (arith, place_fits g.row.N g.T.Part.SIZE c.loop-i.i c.args.at _ c.loop-i-test.true c.requires))

pub load-requires : goal.load-requires
load-requires g c = rw c.SIZE.ensures (place_fits g.row.N g.T.Part.SIZE c.loop-i.i c.args.at _ c.loop-i-test.true c.requires)

pub loop-i-init : goal.loop-i-init
loop-i-init g c = loaded_none _ _ _ _ _ c.told-parts

pub loop-i-preserved : goal.loop-i-preserved
loop-i-preserved g c = loaded_more _ _ _ _ _ c.loop-i.invariant c.loop-i-test.true _ (rw c.SIZE.ensures at c.load.ensures)

pub returns : goal.returns
returns g c = loaded_all _ _ _ _ _ c.loop-i.invariant c.loop-i-test.false
