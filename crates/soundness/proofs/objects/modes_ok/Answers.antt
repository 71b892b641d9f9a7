use Rattle.std.proofs.Common.{◌∙◌, cond, eqb, rules}
use Rattle.std.proofs.lemmas.Iterator.{YieldsList-from_slice}
use Rattle.std.proofs.lemmas.Iterator.Search.{all_from_yields_List}
use borrow.Author.Tests.{tests}
use Rattle.rights.specs.Modes.{legal}
use Rattle.state.specs.Places.{no_password}
use Rattle.soundness.specs.Sound.{password_ok}
use Rattle.bounded.specs.Every.{all_places}
use Rattle.soundness.proofs.objects.modes_ok.Goals as goal

pub returns : goal.returns
unfolding password_ok
returns c =
    all_from_yields_List (λ p. cond (eqb p.word 0) (eqb p.mode 0) (legal p.mode)) _ _ _ c.all.ensures.ran
    (YieldsList-from_slice c.args.o.passwords cc)
    (λ x b q k. search (rules, tests))
    ∙ all_places no_password (λ p. cond (eqb p.word 0) (eqb p.mode 0) (legal p.mode)) c.args.o.passwords 4 c.well_formed.1.0.1.1.1.1.1.0.1.0.1
