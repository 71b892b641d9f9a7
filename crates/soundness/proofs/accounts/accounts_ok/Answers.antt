use Rattle.std.proofs.Common.{◌≡◌, ◌∙◌, leb, rules}
use Rattle.std.proofs.lemmas.Iterator.{YieldsList-from_slice}
use Rattle.std.proofs.lemmas.Iterator.Search.{all_from_yields_List}
use borrow.Author.Tests.{tests, eq-eqb}
use Rattle.bounded.specs.Every.{below, all_places}
use Rattle.state.specs.Places.{limit_at}
use Rattle.soundness.specs.Sound.{accounts_ok}
use Rattle.soundness.proofs.accounts.accounts_ok.Goals as goal

pub returns-then-all : goal.returns-then-all
unfolding accounts_ok
returns-then-all c =
    let a : c.all.result ≡ below 4 (λ k. leb (limit_at c.args.x k) 128) =
    all_from_yields_List (λ l. leb l 128) _ _ _ c.all.ensures.ran (YieldsList-from_slice c.args.x.limits cc) (λ x b q k. search (rules, tests))
    ∙ all_places 0 (λ l. leb l 128) c.args.x.limits 4 c.well_formed.0.1.1.0.1.0.1 in
    rw (eq-eqb _ _ c.well_formed.0.1.1.0.1.0.1, eq-eqb _ _ c.well_formed.0.1.1.1.0.1.0.1, ← a, c.if-all.true)
    (all_from_yields_List (λ l. leb l 15) _ _ _ c.all-then-all.ensures.ran (YieldsList-from_slice c.args.x.sets cc) (λ x b q k. search (rules, tests))
    ∙ all_places 0 (λ l. leb l 15) c.args.x.sets 4 c.well_formed.0.1.1.1.0.1.0.1)

pub returns-else-all : goal.returns-else-all
unfolding accounts_ok
returns-else-all c =
    let a : c.all.result ≡ below 4 (λ k. leb (limit_at c.args.x k) 128) =
    all_from_yields_List (λ l. leb l 128) _ _ _ c.all.ensures.ran (YieldsList-from_slice c.args.x.limits cc) (λ x b q k. search (rules, tests))
    ∙ all_places 0 (λ l. leb l 128) c.args.x.limits 4 c.well_formed.0.1.1.0.1.0.1 in
    rw (eq-eqb _ _ c.well_formed.0.1.1.0.1.0.1, eq-eqb _ _ c.well_formed.0.1.1.1.0.1.0.1, ← a, c.if-all.false)
