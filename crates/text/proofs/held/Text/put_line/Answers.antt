use Rattle.text.specs.Held.{line_held}
use Rattle.text.proofs.held.Text.put_line.Goals as goal

pub invariant_of-self : goal.invariant_of-self
invariant_of-self g c = let p = c.put_line-self-inside.ensures in (line_held _ _ _ _ _ _ c.self.invariant p.0 p.1).0
