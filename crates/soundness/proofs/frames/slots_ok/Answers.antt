use Rattle.std.proofs.Common.{◌∙◌, cond, leb, ltb, rules}
use Rattle.std.proofs.lemmas.Iterator.{YieldsList-from_slice}
use Rattle.std.proofs.lemmas.Iterator.Consumers.{YieldsList-from_enumerate}
use Rattle.std.proofs.lemmas.Iterator.Search.{all_from_yields_List}
use borrow.Author.Tests.{tests}
use Rattle.state.specs.Places.{no_capability}
use Rattle.soundness.specs.Sound.{blank, slot_ok}
use Rattle.soundness.proofs.Rows.{all_numbered}
use Rattle.soundness.proofs.frames.slots_ok.Goals as goal

pub returns : goal.returns
unfolding slot_ok
returns c =
    all_from_yields_List (λ x. cond (leb c.args.f.count x.0) (blank x.1) (ltb x.1.page 128)) _ _ _ c.all.ensures.ran
    (YieldsList-from_enumerate (YieldsList-from_slice c.args.f.slots cc) cc)
    (λ x b q k. search (rules, tests))
    ∙ all_numbered no_capability (λ k x. cond (leb c.args.f.count k) (blank x) (ltb x.page 128)) c.args.f.slots 8 c.well_formed.0.1.1.0.1.0.1
