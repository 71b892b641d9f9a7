use borrow.Author.Rules.{rules}
use mathlib.Core.Path.{refl, sym, ◌∙◌}
use lib.ListN.{length}
use borrow.Author.Tests.{not-true, not-false, eqb-true}
use Rattle.slices.specs.Lengths.{wrong_some}
use Rattle.byte_calls.specs.Laws.Concluded.{right_lengths, by_length, by_image, boot_ready, by_boot}
use Rattle.byte_calls.specs.Called.{booted}
use mathlib.Core.Path.{ap}
use mathlib.Core.Bool.{not}
use Rattle.byte_calls.proofs.boot_call.Goals as goal

pub returns-in-Err : goal.returns-in-Err
unfolding booted
returns-in-Err c = by_length _ _ _ _ _ _ (c.from.ensures ∙ c.in-Err.ensures) (λ e. wrong_some _ (sym c.from.ensures ∙ e)) c.refuse.ensures.0 c.refuse.ensures.1

pub returns-then-not-has_length : goal.returns-then-not-has_length
unfolding booted
returns-then-not-has_length c = let l = right_lengths _ _ (sym c.in_default.ensures) in by_image _ _ _ l.0 l.1 (sym c.has_length.ensures ∙ not-true _ (ap not c.if-not-has_length.true)) _ _ c.refuse-then-not-has_length.ensures.0 c.refuse-then-not-has_length.ensures.1

pub load-requires : goal.load-requires
unfolding booted
load-requires c = (search rules, (right_lengths _ (length c.args.values.now) (sym c.in_default.ensures)).0)

pub conclude-requires : goal.conclude-requires
unfolding booted
conclude-requires c = let l = right_lengths _ _ (sym c.in_default.ensures) in boot_ready _ _ _ _ _ _ _ (eqb-true _ _ (sym c.has_length.ensures ∙ not-false _ (ap not c.if-not-has_length.false))) l.0 l.1 (rw c.load.ensures at c.boot-outcome.ensures) _ refl (search rules)

pub returns : goal.returns
unfolding booted
returns c = let l = right_lengths _ _ (sym c.in_default.ensures) in by_boot _ _ _ _ _ _ _ (eqb-true _ _ (sym c.has_length.ensures ∙ not-false _ (ap not c.if-not-has_length.false))) l.0 l.1 (rw c.load.ensures at c.boot-outcome.ensures) c.conclude.ensures
