use Rattle.std.proofs.Common.{◌∙◌, rules, tests, eqb}
use Rattle.std.proofs.lemmas.Iterator.{YieldsList-from_slice}
use Rattle.std.proofs.lemmas.Iterator.Search.{position_from_yields_List}
use Rattle.state.specs.Places.{no_password}
use Rattle.state.specs.Laws.Found.{position_found}
use Rattle.state.specs.Lookup.{place_of}
use Rattle.state.proofs.objects.place_of.Goals as goal

pub returns : goal.returns
unfolding place_of
returns c =
    position_from_yields_List (λ p. eqb p.word c.args.word) _ _ _ c.position.ensures.ran
    (YieldsList-from_slice c.args.o.passwords cc) (λ x b q k. search (rules, tests))
    ∙ position_found (λ p. eqb p.word c.args.word) c.args.o.passwords 4 no_password (search rules)
