use Rattle.std.proofs.Common.{◌∙◌, refl, rules}
use Rattle.std.proofs.lemmas.Iterator.{YieldsList-from_slice, YieldsList-from_range, YieldsList-from_zip}
use Rattle.std.proofs.lemmas.Iterator.Search.{all_from_yields_List}
use borrow.Author.Tests.{tests}
use Rattle.state.specs.Places.{no_estate}
use Rattle.soundness.specs.Sound.{estate_ok}
use Rattle.soundness.proofs.Rows.{all_zipped}
use Rattle.soundness.proofs.estates_ok.Goals as goal

pub returns : goal.returns
returns c =
    all_from_yields_List (λ x. estate_ok x.0 x.1) c.all.new.self _ _ c.all.ensures.ran
    (YieldsList-from_zip (YieldsList-from_slice c.args.t.estates cc) (YieldsList-from_range 0 4 4 (cc) refl))
    (λ x b q k. search (rules, tests))
    ∙ all_zipped no_estate (λ d e. estate_ok e d) c.args.t.estates 4 c.well_formed.0.1.1.0.1.0.1
