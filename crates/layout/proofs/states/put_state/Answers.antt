use Rattle.layout.specs.Laws.States.{Wrote, wrote, left}
use Rattle.layout.proofs.states.put_state.Goals as goal

pub returns-then-bytes-eq-STATE : goal.returns-then-bytes-eq-STATE
returns-then-bytes-eq-STATE c =
    let w : Wrote c.args.s c.args.bytes.now c.store.new.bytes = wrote _ _ _ c.store.ensures.0 c.store.ensures.1 c.if-bytes-eq-STATE.true in
    record { bytes_after = w.0; bytes_after_2 = w.1 }

pub returns-else-bytes-eq-STATE : goal.returns-else-bytes-eq-STATE
returns-else-bytes-eq-STATE c =
    let l : Wrote c.args.s c.args.bytes.now c.args.bytes.now = left _ _ c.if-bytes-eq-STATE.false in
    record { bytes_after = l.0; bytes_after_2 = l.1 }
