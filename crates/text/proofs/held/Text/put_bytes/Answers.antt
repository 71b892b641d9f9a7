use Rattle.std.proofs.Common.{◌≡◌, ◌+◌, ◌-◌, length, arith, refl}
use Rattle.text.specs.Held.{bytes_held}
use Rattle.text.proofs.held.Text.put_bytes.Goals as goal

pub invariant_of-self : goal.invariant_of-self
invariant_of-self g c = let n : c.self.inside.count + length c.args.s.now - c.self.inside.count ≡ length c.args.s.now = omega arith in
    rw (n, c.copy_from_slice.ensures.after)
    (bytes_held g.row.N c.self.inside.bytes c.self.inside.count c.args.s.now c.self.invariant (omega (arith, c.self.invariant.within, c.if-self-s.false)) refl).0
