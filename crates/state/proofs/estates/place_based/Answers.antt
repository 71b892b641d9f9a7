use Rattle.std.proofs.Common.{◌∙◌, rules, tests}
use Rattle.std.proofs.lemmas.Iterator.{YieldsList-from_slice}
use Rattle.std.proofs.lemmas.Iterator.Search.{position_from_yields_List}
use Rattle.state.specs.Places.{no_object}
use Rattle.state.specs.Laws.Found.{position_found}
use Rattle.state.specs.Lookup.{has_base, place_based}
use Rattle.state.proofs.estates.place_based.Goals as goal

pub returns : goal.returns
unfolding place_based
returns c =
    position_from_yields_List (has_base c.args.page) _ _ _ c.position.ensures.ran (YieldsList-from_slice c.args.e.objects cc) (λ x b q k. search (rules, tests))
    ∙ position_found (has_base c.args.page) c.args.e.objects 8 no_object (search rules)
