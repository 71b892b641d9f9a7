use Rattle.image.specs.Image.{reads, reads_not}
use Rattle.image.proofs.read_image.Goals as goal

pub returns-then-image-ne-STATE : goal.returns-then-image-ne-STATE
returns-then-image-ne-STATE c = rw c.state_of-s.ensures (reads_not _ c.if-image-ne-STATE.true)

pub returns : goal.returns
returns c = rw (c.sound.ensures, c.truths_ok.ensures, c.state_of-s.ensures) (reads _ c.if-image-ne-STATE.false)
