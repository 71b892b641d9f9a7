use Rattle.std.proofs.Common.{arith}
use Rattle.layout.specs.Laws.Words.{putting_none, putting_more, putting_all, bytes_end, words_end}
use Rattle.layout.proofs.words.put_words.Goals as goal

pub returns-then-bytes-to : goal.returns-then-bytes-to
returns-then-bytes-to c = bytes_end _ _ _ _ (omega (arith, c.if-bytes-to.true))

pub returns-then-words-to : goal.returns-then-words-to
returns-then-words-to c = words_end _ _ _ _ (omega (arith, c.if-bytes-to.false)) c.if-words-to.true

pub loop-i-init : goal.loop-i-init
loop-i-init c = putting_none _ _ _ _

pub loop-i-preserved : goal.loop-i-preserved
loop-i-preserved c = putting_more _ _ _ _ c.loop-i.invariant c.loop-i-test.true c.store.ensures

pub returns : goal.returns
returns c = putting_all _ _ _ _ c.loop-i.invariant c.loop-i-test.false (omega (arith, c.if-bytes-to.false)) c.if-words-to.false
