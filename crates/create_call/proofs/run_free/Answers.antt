use Rattle.std.proofs.Common.{◌∙◌, rules}
use Rattle.std.proofs.lemmas.Iterator.{YieldsList-from_slice}
use Rattle.std.proofs.lemmas.Iterator.Search.{all_from_yields_List}
use Rattle.bounded.specs.Every.{all_places}
use Rattle.state.specs.Places.{no_object}
use Rattle.state.specs.Extent.{apart}
use Rattle.state.specs.declared.Object.{Object}
use Rattle.calls.specs.Arguments.{run_free}
use Rattle.create_call.proofs.run_free.Goals as goal

pub returns : goal.returns
unfolding run_free
returns c =
    let test = λ (x : Object). apart x c.args.o in
    all_from_yields_List test _ _ _ c.all.ensures.ran (YieldsList-from_slice c.args.e.objects cc) (λ x b q k. search rules)
    ∙ all_places no_object test c.args.e.objects 8 c.well_formed.0.1.1.0.1.0.1
