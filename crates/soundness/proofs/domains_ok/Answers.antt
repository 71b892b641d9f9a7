use Rattle.std.proofs.Common.{◌∙◌, rules}
use Rattle.std.proofs.lemmas.Iterator.{YieldsList-from_slice}
use Rattle.std.proofs.lemmas.Iterator.Search.{all_from_yields_List}
use borrow.Author.Tests.{tests}
use Rattle.state.specs.Places.{no_domain}
use Rattle.soundness.specs.Sound.{domain_ok}
use Rattle.bounded.specs.Every.{all_places}
use Rattle.soundness.proofs.domains_ok.Goals as goal

pub returns : goal.returns
returns c =
    all_from_yields_List (λ m. domain_ok m) _ _ _ c.all.ensures.ran
    (YieldsList-from_slice c.args.domains cc)
    (λ x b q k. search (rules, tests))
    ∙ all_places no_domain (λ m. domain_ok m) c.args.domains 4 c.well_formed.0.1.0.1
