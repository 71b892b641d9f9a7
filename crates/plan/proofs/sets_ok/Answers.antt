use Rattle.std.proofs.Common.{◌&&◌, leb, ◌∙◌, refl, rules, tests}
use Rattle.std.proofs.lemmas.Iterator.{YieldsList-from_range}
use Rattle.std.proofs.lemmas.Iterator.Search.{all_from_yields_List}
use Rattle.state.specs.Pages.{in_set}
use Rattle.calls.specs.Boot.{sets_ok, set_of, account_of}
use Rattle.plan.proofs.Four.{four}
use Rattle.plan.proofs.sets_ok.Goals as goal

pub returns : goal.returns
unfolding sets_ok
returns c =
    all_from_yields_List (λ d. leb (set_of c.args.plan d) 15 && in_set (set_of c.args.plan d) (account_of c.args.plan d)) _ _ _ c.all.ensures.ran
    (YieldsList-from_range 0 4 4 refl refl)
    (λ x b q k. search (rules, tests))
    ∙ four (λ d. leb (set_of c.args.plan d) 15 && in_set (set_of c.args.plan d) (account_of c.args.plan d))
