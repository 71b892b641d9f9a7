use Rattle.std.proofs.Common.{◌∙◌, sym, refl, rules}
use borrow.Author.Tests.{tests}
use Rattle.bounded.specs.Fill.{tabulate, tabulate_at, by_places}
use Rattle.state.specs.Places.{password_at}
use Rattle.soundness.proofs.objects.words.Goals as goal

pub returns : goal.returns
returns c =
    by_places 4 _ (tabulate 4 (λ k. (password_at c.args.o k).word)) 0 c.map.ensures.items.long refl
    (λ k l. (search (rules, tests)) ∙ sym (tabulate_at 4 (λ j. (password_at c.args.o j).word) k 0 l))
