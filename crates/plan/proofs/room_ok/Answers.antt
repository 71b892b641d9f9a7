use Rattle.std.proofs.Common.{leb, ◌∙◌, refl, rules, tests}
use Rattle.std.proofs.lemmas.Iterator.{YieldsList-from_range}
use Rattle.std.proofs.lemmas.Iterator.Search.{all_from_yields_List}
use Rattle.calls.specs.Boot.{room_ok, home_pages, limit_of}
use Rattle.plan.proofs.Four.{four}
use Rattle.plan.proofs.room_ok.Goals as goal

pub returns : goal.returns
unfolding room_ok
returns c =
    all_from_yields_List (λ a. leb (home_pages c.args.plan a) (limit_of c.args.plan a)) _ _ _ c.all.ensures.ran (YieldsList-from_range 0 4 4 refl refl)
    (λ x b q k. search (rules, tests))
    ∙ four (λ a. leb (home_pages c.args.plan a) (limit_of c.args.plan a))
