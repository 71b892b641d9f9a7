use mathlib.Core.Path.{◌∙◌}
use Rattle.byte_calls.specs.Laws.Stored.{loaded}
use Rattle.byte_calls.proofs.store.load.Goals as goal

pub returns : goal.returns
returns c = c.read_words.ensures ∙ loaded _ _ c.requires.0 c.requires.1
