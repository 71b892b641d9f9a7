use Rattle.std.proofs.Common.{rules}
use Rattle.std.proofs.lemmas.List.Sorted.{answers_always}
use borrow.Author.Tests.{tests}
use Rattle.state.specs.Places.{no_object}
use Rattle.soundness.specs.Sound.{follows, ordered_at}
use Rattle.soundness.proofs.Rows.{all_adjacent}
use Rattle.soundness.proofs.objects.in_order.Goals as goal

pub returns : goal.returns
unfolding ordered_at
returns c =
    all_adjacent no_object follows c.args.e.objects 7 _ c.well_formed.0.1.1.0.1.0.1
    (c.is_sorted_by.ensures.cases follows (answers_always _ _ _ (λ f a r g k. search (rules, tests))))
