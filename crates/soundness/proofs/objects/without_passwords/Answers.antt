use Rattle.std.proofs.Common.{◌≡◌, ◌∙◌, eqb, rules, ne_eqb}
use Rattle.std.specs.List.{list_all}
use Rattle.std.proofs.lemmas.Iterator.{YieldsList-from_slice}
use Rattle.std.proofs.lemmas.Iterator.Search.{all_from_yields_List}
use borrow.Author.Tests.{tests, eq-eqb}
use Rattle.state.specs.Places.{no_password}
use Rattle.soundness.specs.Sound.{without_passwords}
use Rattle.bounded.specs.Every.{all_places}
use Rattle.soundness.proofs.objects.without_passwords.Goals as goal

pub returns-then-o-eq0 : goal.returns-then-o-eq0
unfolding without_passwords
returns-then-o-eq0 c =
    let a : c.all.result ≡ list_all (λ p. eqb p.word 0) c.args.o.passwords =
    all_from_yields_List (λ p. eqb p.word 0) _ _ _ c.all.ensures.ran (YieldsList-from_slice c.args.o.passwords cc) (λ x b q k. search (rules, tests)) in
    rw (eq-eqb _ _ c.if-o-eq0.true) (a ∙ all_places no_password (λ p. eqb p.word 0) c.args.o.passwords 4 c.well_formed.0.1.1.1.1.1.0.1.0.1)

pub returns-else-o-eq0 : goal.returns-else-o-eq0
unfolding without_passwords
returns-else-o-eq0 c =
    rw (ne_eqb _ _ c.if-o-eq0.false)
