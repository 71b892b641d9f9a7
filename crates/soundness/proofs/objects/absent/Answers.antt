use Rattle.std.proofs.Common.{◌∙◌, not, eqb, rules}
use Rattle.std.proofs.lemmas.Iterator.{YieldsList-from_slice}
use Rattle.std.proofs.lemmas.Iterator.Search.{all_from_yields_List}
use borrow.Author.Tests.{tests}
use Rattle.soundness.proofs.Rows.{all_others}
use Rattle.soundness.proofs.objects.absent.Goals as goal

pub returns : goal.returns
returns c =
    all_from_yields_List (λ x. not (eqb x c.args.w)) _ _ _ c.all.ensures.ran (YieldsList-from_slice c.args.others.now cc) (λ x b q k. search (rules, tests))
    ∙ all_others c.args.w c.args.others.now
