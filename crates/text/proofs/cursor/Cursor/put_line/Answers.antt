use Rattle.std.proofs.Common.{[], arith, take_all}
use Rattle.bounded.specs.Folds.{fold_more}
use Rattle.text.specs.Grown.{grown_none, grown_then}
use Rattle.text.specs.Answer.{with_field, fields_text, answer_line}
use Rattle.text.proofs.cursor.Cursor.put_line.Goals as goal

pub loop-v-init : goal.loop-v-init
unfolding fields_text
loop-v-init c = record { grown = grown_none _; bound = omega arith }

pub loop-v-preserved : goal.loop-v-preserved
unfolding fields_text
loop-v-preserved c = let q = grown_then c.loop-v.invariant.grown c.put_field-in-loop-v.ensures.0 in
    record { grown = rw (← fold_more with_field [] c.args.values.now c.loop-v.v-index c.loop-v-test.true) q; bound = omega arith }

pub returns : goal.returns
unfolding answer_line
returns c = let fields = rw (take_all c.loop-v.v-index c.args.values.now (omega arith)) at c.loop-v.invariant.grown in
    grown_then (grown_then (grown_then c.put_number.ensures.0 c.put_field.ensures.0) fields) c.put_byte.ensures
