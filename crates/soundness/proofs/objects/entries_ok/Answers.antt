use Rattle.std.proofs.Common.{◌∙◌, cond, ◌/◌, leb, eqb, rules}
use Rattle.std.proofs.lemmas.Iterator.{YieldsList-from_slice}
use Rattle.std.proofs.lemmas.Iterator.Consumers.{YieldsList-from_enumerate}
use Rattle.std.proofs.lemmas.Iterator.Search.{all_from_yields_List}
use borrow.Author.Tests.{tests}
use Rattle.state.specs.Extent.{covers}
use Rattle.soundness.specs.Sound.{entry_ok}
use Rattle.soundness.proofs.Rows.{all_numbered}
use Rattle.soundness.proofs.objects.entries_ok.Goals as goal

pub returns : goal.returns
unfolding entry_ok
returns c =
    all_from_yields_List (λ x. cond (leb c.args.o.registration.count x.0) (eqb x.1 0) (covers c.args.o (x.1 / 64))) _ _ _ c.all.ensures.ran
    (YieldsList-from_enumerate (YieldsList-from_slice c.args.o.registration.entries cc) cc)
    (λ x b q k. search (rules, tests))
    ∙ all_numbered 0 (λ k x. cond (leb c.args.o.registration.count k) (eqb x 0) (covers c.args.o (x / 64)))
    c.args.o.registration.entries 4 c.well_formed.0.1.1.1.1.1.1.0.1.1.1.1.1.0.1.0.1
