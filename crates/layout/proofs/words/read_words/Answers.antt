use Rattle.std.proofs.Common.{arith}
use Rattle.layout.specs.Laws.Words.{loading_none, loading_more, loading_all, too_few}
use Rattle.layout.proofs.words.read_words.Goals as goal

pub returns-then-bytes-words : goal.returns-then-bytes-words
returns-then-bytes-words c = too_few _ _ (omega (arith, c.if-bytes-words.true))

pub loop-i-init : goal.loop-i-init
loop-i-init c = loading_none _ _

pub loop-i-preserved : goal.loop-i-preserved
loop-i-preserved c = loading_more _ _ c.loop-i.invariant c.loop-i-test.true _ c.load.ensures

pub returns : goal.returns
returns c = loading_all _ _ c.loop-i.invariant c.loop-i-test.false (omega (arith, c.if-bytes-words.false))
