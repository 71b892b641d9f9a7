use mathlib.Core.Path.{refl}
use Rattle.calls.proofs.Parts.{moves_length}
use Rattle.apply.proofs.domain_call.Goals as goal

pub returns-then-store-ne-STORE_WORDS : goal.returns-then-store-ne-STORE_WORDS
returns-then-store-ne-STORE_WORDS c = moves_length _ _ _ _ c.if-store-ne-STORE_WORDS.true refl

pub returns-in-Insert : goal.returns-in-Insert
returns-in-Insert c = rw c.in-Insert.is (c.apd_insert.ensures _ c.if-store-ne-STORE_WORDS.false)

pub returns-in-Remove : goal.returns-in-Remove
returns-in-Remove c = rw c.in-Remove.is (c.apd_delete.ensures _ _ c.if-store-ne-STORE_WORDS.false)

pub returns-in-Get : goal.returns-in-Get
returns-in-Get c = rw c.in-Get.is (c.apd_get.ensures _ _ c.if-store-ne-STORE_WORDS.false)

pub returns-in-Lock : goal.returns-in-Lock
returns-in-Lock c = rw c.in-Lock.is (c.apd_lock.ensures _ _ c.if-store-ne-STORE_WORDS.false)

pub returns-in-PdxCall : goal.returns-in-PdxCall
returns-in-PdxCall c = rw c.in-PdxCall.is c.pdx_call.ensures

pub returns-in-PdxReturn : goal.returns-in-PdxReturn
returns-in-PdxReturn c = rw c.in-PdxReturn.is (c.pdx_return.ensures _ _ c.if-store-ne-STORE_WORDS.false)
