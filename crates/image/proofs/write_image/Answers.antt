use Rattle.std.proofs.Common.{◌≡◌, length}
use Rattle.soundness.specs.Sound.{sound}
use Rattle.layout.specs.Sizes.{state_size}
use Rattle.image.specs.Image.{reading, written, wrote}
use Rattle.image.proofs.write_image.Goals as goal

pub returns : goal.returns
returns c =
    let w : (c.put_state.new.bytes ≡ written c.args.image.now c.args.s)
    × (length c.args.image.now ≡ state_size → reading c.put_state.new.bytes ≡ record { readable = sound c.args.s; state = c.args.s }) =
    wrote c.args.s _ _ c.put_state.ensures.bytes_after c.put_state.ensures.bytes_after_2
    in
    record { image_after = w.0; image_after_2 = w.1 }
