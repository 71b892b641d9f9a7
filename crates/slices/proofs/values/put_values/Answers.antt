use mathlib.Core.Path.{◌∙◌}
use Rattle.slices.specs.Laws.Valued.{valued, filled_not}
use Rattle.slices.proofs.values.put_values.Goals as goal

pub returns-then-bytes-ne-VALUES : goal.returns-then-bytes-ne-VALUES
returns-then-bytes-ne-VALUES c = filled_not _ _ c.if-bytes-ne-VALUES.true

pub returns : goal.returns
returns c = rw c.value_words-words.ensures at c.put_words.ensures ∙ valued c.args.value c.args.f _ c.if-bytes-ne-VALUES.false
