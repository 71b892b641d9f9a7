use Rattle.std.proofs.Common.{rules, ◌∙◌}
use Rattle.codec.specs.Number.{number}
use Rattle.layout.proofs.Bytes.{over, half_bytes}
use Rattle.layout.proofs.parts.U16Part.store.Goals as goal

pub returns : goal.returns
unfolding number
returns c = (
  over c.args.at _ _ _ _ c.copy_from_slice.ensures.len (c.copy_from_slice.ensures.after ∙ c.to_le_bytes.ensures ∙ half_bytes c.args.self.now) c.requires,
  search rules,
)
