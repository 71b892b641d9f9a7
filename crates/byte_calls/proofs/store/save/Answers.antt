use mathlib.Core.Path.{◌∙◌}
use Rattle.codec.specs.Codec.{Bytes}
use Rattle.byte_calls.specs.Laws.Stored.{saved}
use Rattle.byte_calls.proofs.store.save.Goals as goal

pub returns : goal.returns
returns c = let b : Bytes c.args.bytes.now = λ i. (c.slice_known-1.given i).fits in
    c.put_words.ensures ∙ saved _ _ _ _ b c.requires.0 c.requires.1 c.requires.2 c.requires.3
