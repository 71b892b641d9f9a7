use Rattle.byte_calls.proofs.keep_state.Goals as goal

pub returns-then-not-changed : goal.returns-then-not-changed
returns-then-not-changed c = rw c.if-not-changed.true

pub returns : goal.returns
returns c = rw c.if-not-changed.false c.write_image.ensures.image_after
