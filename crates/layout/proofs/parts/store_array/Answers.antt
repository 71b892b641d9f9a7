use Rattle.std.proofs.Common.{arith, ◌≡◌, get_or}
use Rattle.std.proofs.lemmas.List.{get_or_default}
use Rattle.codec.specs.Loop.{laying_more, laying_all}
use Rattle.layout.proofs.Bytes.{place_fits}
use Rattle.layout.proofs.parts.store_array.Goals as goal

pub overflow_mul-SIZE : goal.overflow_mul-SIZE
overflow_mul-SIZE g c = rw c.SIZE.ensures (omega (arith, place_fits g.row.N g.T.Part.SIZE c.loop-i.i c.args.at _ c.loop-i-test.true c.requires))

pub overflow_add-at : goal.overflow_add-at
overflow_add-at g c = rw c.SIZE.ensures (omega (arith, place_fits g.row.N g.T.Part.SIZE c.loop-i.i c.args.at _ c.loop-i-test.true c.requires))

pub store-requires : goal.store-requires
store-requires g c = rw (c.SIZE.ensures, c.loop-i.auto.bytes) (place_fits g.row.N g.T.Part.SIZE c.loop-i.i c.args.at _ c.loop-i-test.true c.requires)

pub loop-i-preserved : goal.loop-i-preserved
loop-i-preserved g c =
    let e : get_or c.args.parts.now c.loop-i.i c.index-parts-i.result ≡ get_or c.args.parts.now c.loop-i.i g.T.Part.none =
    get_or_default c.args.parts.now c.loop-i.i _ _ (rw c.type_inv.parts c.loop-i-test.true) in
    let h = rw (e, c.SIZE.ensures) at c.store.ensures in
    laying_more _ _ _ _ _ c.loop-i.invariant c.loop-i-test.true h.0 h.1

pub returns : goal.returns
returns g c = laying_all g.T.Part.layout g.T.Part.none c.args.parts.now g.row.N _ _ c.loop-i.invariant c.loop-i-test.false c.type_inv.parts
