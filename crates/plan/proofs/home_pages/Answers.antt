use Rattle.std.proofs.Common.{◌∙◌, refl, rules, tests, eqb}
use Rattle.std.specs.List.{range_with_len}
use Rattle.std.proofs.lemmas.Iterator.{YieldsList-from_range}
use Rattle.std.proofs.lemmas.Iterator.Consumers.{YieldsList-from_filter, count_from_yields_List}
use Rattle.std.proofs.lemmas.List.Sums.{length-filter}
use Rattle.bounded.specs.Sum.{total}
use Rattle.calls.specs.Boot.{home_pages, account_of}
use Rattle.plan.proofs.home_pages.Goals as goal

pub returns : goal.returns
unfolding home_pages total
returns c =
    count_from_yields_List c.filter.result _ c.count.ensures.ran
    (YieldsList-from_filter _ (λ d. eqb (account_of c.args.plan d) c.args.a) (YieldsList-from_range 0 4 4 c.filter.ensures.source refl) c.filter.ensures.closure
    (λ x b q k. search (rules, tests)))
    ∙ length-filter (λ d. eqb (account_of c.args.plan d) c.args.a) (range_with_len 0 4)
