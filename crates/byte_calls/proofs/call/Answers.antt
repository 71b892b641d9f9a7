use native.Mathlib.Omega.{arith}
use borrow.Author.Rules.{rules}
use mathlib.Core.Path.{sym, ◌∙◌}
use lib.ListN.{length}
use borrow.Author.Tests.{not-false}
use Rattle.codec.specs.Codec.{Bytes}
use Rattle.slices.specs.Lengths.{wrong_some}
use Rattle.byte_calls.specs.Laws.Concluded.{right_lengths, by_length, by_image, call_ready, by_call}
use Rattle.byte_calls.specs.Called.{called}
use Rattle.byte_calls.proofs.call.Goals as goal

pub returns-in-Err : goal.returns-in-Err
unfolding called
returns-in-Err c = by_length _ _ _ _ _ _ (c.from.ensures ∙ c.in-Err.ensures) (λ e. wrong_some _ (sym c.from.ensures ∙ e)) c.refuse.ensures.0 c.refuse.ensures.1

pub returns-then-not-reading : goal.returns-then-not-reading
unfolding called
returns-then-not-reading c =
    let l = right_lengths _ _ (sym c.in_default.ensures) in
    by_image _ _ _ l.0 l.1 (grind (arith, c.read_image-reading.ensures, c.if-not-reading.true)) _ _ c.refuse-then-not-reading.ensures.0 c.refuse-then-not-reading.ensures.1

pub load-requires : goal.load-requires
unfolding called
load-requires c = (search rules, (right_lengths _ (length c.args.values.now) (sym c.in_default.ensures)).0)

pub conclude-requires : goal.conclude-requires
unfolding called
conclude-requires c =
    let l = right_lengths _ _ (sym c.in_default.ensures) in
    let bytes : Bytes c.args.image.now = λ j. (c.slice_known-1.given j).fits in
    call_ready _ _ _ _ _ _ _ bytes l.0 l.1
    (not-false _ (rw c.read_image-reading.ensures at c.if-not-reading.false)) (rw (c.read_image-reading.ensures, c.load.ensures) at c.unchecked-outcome.ensures) _ c.changed_by.ensures

pub returns : goal.returns
unfolding called
returns c =
    let l = right_lengths _ _ (sym c.in_default.ensures) in
    let bytes : Bytes c.args.image.now = λ j. (c.slice_known-1.given j).fits in
    by_call _ _ _ _ _ _ _ bytes l.0 l.1
    (not-false _ (rw c.read_image-reading.ensures at c.if-not-reading.false)) (rw (c.read_image-reading.ensures, c.load.ensures) at c.unchecked-outcome.ensures) c.conclude.ensures
