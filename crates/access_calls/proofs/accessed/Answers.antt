use borrow.Author.Tests.{eq-eqb, ne_eqb, lt-ltb, le-ltb}
use Rattle.access_calls.proofs.accessed.Goals as goal

pub returns-then-store-ne-STORE_WORDS : goal.returns-then-store-ne-STORE_WORDS
returns-then-store-ne-STORE_WORDS c = rw (ne_eqb _ _ c.if-store-ne-STORE_WORDS.true)

pub returns-then-address-ge8192 : goal.returns-then-address-ge8192
returns-then-address-ge8192 c = rw (eq-eqb _ _ c.if-store-ne-STORE_WORDS.false, le-ltb _ _ c.if-address-ge8192.true)

pub returns : goal.returns
returns c = rw (eq-eqb _ _ c.if-store-ne-STORE_WORDS.false, lt-ltb _ _ c.if-address-ge8192.false, ← c.judge.ensures) c.ok_or.ensures.value
