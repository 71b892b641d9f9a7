use Rattle.std.proofs.Common.{◌&&◌, ltb, leb, ◌∙◌, refl, rules, tests}
use Rattle.std.proofs.lemmas.Iterator.{YieldsList-from_range}
use Rattle.std.proofs.lemmas.Iterator.Search.{all_from_yields_List}
use Rattle.calls.specs.Boot.{limits_ok, limit_of}
use Rattle.plan.proofs.Four.{four}
use Rattle.plan.proofs.limits_ok.Goals as goal

pub returns : goal.returns
unfolding limits_ok
returns c =
    all_from_yields_List (λ a. ltb 0 (limit_of c.args.plan a) && leb (limit_of c.args.plan a) 128) _ _ _ c.all.ensures.ran
    (YieldsList-from_range 0 4 4 refl refl)
    (λ x b q k. search (rules, tests))
    ∙ four (λ a. ltb 0 (limit_of c.args.plan a) && leb (limit_of c.args.plan a) 128)
