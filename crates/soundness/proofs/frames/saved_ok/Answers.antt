use Rattle.std.proofs.Common.{◌∙◌, leb, rules}
use Rattle.std.proofs.lemmas.Iterator.{YieldsList-from_slice}
use Rattle.std.proofs.lemmas.Iterator.Consumers.{YieldsList-from_enumerate}
use Rattle.std.proofs.lemmas.Iterator.Search.{all_from_yields_List}
use borrow.Author.Tests.{tests}
use Rattle.state.specs.Places.{no_frame}
use Rattle.soundness.specs.Sound.{frame_ok, saved_ok}
use Rattle.soundness.proofs.Rows.{all_numbered}
use Rattle.soundness.proofs.frames.saved_ok.Goals as goal

pub returns : goal.returns
unfolding saved_ok
returns c =
    all_from_yields_List (λ x. frame_ok (leb c.args.m.depth x.0) x.1) _ _ _ c.all.ensures.ran
    (YieldsList-from_enumerate (YieldsList-from_slice c.args.m.saved cc) cc)
    (λ x b q k. search (rules, tests))
    ∙ all_numbered no_frame (λ k x. frame_ok (leb c.args.m.depth k) x) c.args.m.saved 4 c.well_formed.0.1.1.1.0.1.0.1
