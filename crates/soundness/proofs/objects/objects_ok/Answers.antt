use Rattle.std.proofs.Common.{◌∙◌, rules}
use Rattle.std.proofs.lemmas.Iterator.{YieldsList-from_slice}
use Rattle.std.proofs.lemmas.Iterator.Search.{all_from_yields_List}
use borrow.Author.Tests.{tests}
use Rattle.state.specs.Places.{no_object}
use Rattle.soundness.specs.Sound.{object_ok}
use Rattle.bounded.specs.Every.{all_places}
use Rattle.soundness.proofs.objects.objects_ok.Goals as goal

pub returns : goal.returns
returns c =
    all_from_yields_List (λ o. object_ok o c.args.d) _ _ _ c.all.ensures.ran
    (YieldsList-from_slice c.args.e.objects cc)
    (λ x b q k. search (rules, tests))
    ∙ all_places no_object (λ o. object_ok o c.args.d) c.args.e.objects 8 c.well_formed.1.0.1.1.0.1.0.1
