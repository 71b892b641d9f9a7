use Rattle.std.proofs.Common.{◌∙◌, ◌||◌, ltb, rules, tests}
use Rattle.std.proofs.lemmas.Iterator.{YieldsList-from_slice}
use Rattle.std.proofs.lemmas.Iterator.Search.{position_from_yields_List}
use Rattle.state.specs.Places.{no_object}
use Rattle.state.specs.Extent.{free}
use Rattle.state.specs.Laws.Found.{position_found}
use Rattle.state.specs.Lookup.{place_above}
use Rattle.updates.proofs.estates.place_above.Goals as goal

pub returns : goal.returns
unfolding place_above
returns c =
    position_from_yields_List (λ o. free o || ltb c.args.base o.base) _ _ _ c.position.ensures.ran (YieldsList-from_slice c.args.e.objects cc)
    (λ x b q k. search (rules, tests))
    ∙ position_found (λ o. free o || ltb c.args.base o.base) c.args.e.objects 8 no_object (search rules)
