use Rattle.std.proofs.Common.{not, eqb, ◌∙◌, refl, rules, tests}
use Rattle.std.proofs.lemmas.Iterator.{YieldsList-from_range}
use Rattle.std.proofs.lemmas.Iterator.Search.{all_from_yields_List}
use Rattle.calls.specs.Boot.{homes_ok, home_of}
use Rattle.plan.proofs.Four.{four}
use Rattle.plan.proofs.homes_ok.Goals as goal

pub returns : goal.returns
unfolding homes_ok
returns c =
    all_from_yields_List (λ d. not (eqb (home_of c.args.plan d) 0)) _ _ _ c.all.ensures.ran (YieldsList-from_range 0 4 4 refl refl)
    (λ x b q k. search (rules, tests))
    ∙ four (λ d. not (eqb (home_of c.args.plan d) 0))
