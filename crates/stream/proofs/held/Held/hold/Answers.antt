use Rattle.std.proofs.Common.{◌≡◌, ◌++◌, ℕ, List, length, take, length-take, ap, ◌∙◌, arith}
use Rattle.std.proofs.lemmas.Slice.{take-put_mid}
use Rattle.stream.specs.Held.{held_more}
use Rattle.stream.proofs.held.Held.hold.Goals as goal

pub returns : goal.returns
returns c =
    let new = c.copy_from_slice.new.self in
    let long = ap length c.copy_from_slice.ensures.after in
    let fits : length new ≡ c.min-n.result = omega (arith, long, length-take c.min-n.result c.args.s.now) in
    take-put_mid c.args.self.now.count _ c.args.self.now.bytes new _ (omega arith) (omega arith)
    ∙ ap (λ (z : List ℕ). take c.args.self.now.count c.args.self.now.bytes ++ z) c.copy_from_slice.ensures.after
    ∙ held_more c.args.self.now.bytes c.args.s.now c.args.self.now.count c.min-n.result c.args.self.now.fits (omega arith) c.min-n.ensures
