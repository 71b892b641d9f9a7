use Rattle.std.proofs.Common.{◌≡◌, sym, ◌&&◌}
use borrow.Author.Tests.{eq-eqb}
use Rattle.bounded.specs.Every.{below}
use Rattle.state.specs.Places.{estate_at, domain_at}
use Rattle.soundness.specs.Sound.{estate_ok, domain_ok, sound_at, sound}
use Rattle.soundness.specs.Laws.Reach.{below_and}
use Rattle.soundness.proofs.sound.Goals.{then-estates_ok, else-estates_ok}
use Rattle.soundness.proofs.sound.Goals as goal

pub returns-then-domains_ok : goal.returns-then-domains_ok
unfolding sound sound_at
returns-then-domains_ok c =
    let j : below 4 (sound_at c.args.s) ≡ (below 4 (λ d. estate_ok (estate_at c.args.s.table d) d) && below 4 (λ d. domain_ok (domain_at c.args.s d))) =
    sym (below_and 4 (λ d. estate_ok (estate_at c.args.s.table d) d) (λ d. domain_ok (domain_at c.args.s d))) in
    elim c.if-estates_ok.branch [
      | then-estates_ok w ↦
          rw (eq-eqb _ _ c.well_formed.0.1.1.0.1.1.0.1.0.1, eq-eqb _ _ c.well_formed.0.1.1.1.0.1.0.1, j, ← c.estates_ok.ensures, w.if-estates_ok.true)
          (rw (← w.domains_ok.ensures, ← w.value-is, c.if-domains_ok.true) c.accounts_ok.ensures)
      | else-estates_ok w ↦ cc
    ]

pub returns-else-domains_ok : goal.returns-else-domains_ok
unfolding sound sound_at
returns-else-domains_ok c =
    let j : below 4 (sound_at c.args.s) ≡ (below 4 (λ d. estate_ok (estate_at c.args.s.table d) d) && below 4 (λ d. domain_ok (domain_at c.args.s d))) =
    sym (below_and 4 (λ d. estate_ok (estate_at c.args.s.table d) d) (λ d. domain_ok (domain_at c.args.s d))) in
    elim c.if-estates_ok.branch [
      | then-estates_ok w ↦
          rw (eq-eqb _ _ c.well_formed.0.1.1.0.1.1.0.1.0.1, eq-eqb _ _ c.well_formed.0.1.1.1.0.1.0.1, j, ← c.estates_ok.ensures, w.if-estates_ok.true)
          (rw (← w.domains_ok.ensures, ← w.value-is, c.if-domains_ok.false))
      | else-estates_ok w ↦
          rw (eq-eqb _ _ c.well_formed.0.1.1.0.1.1.0.1.0.1, eq-eqb _ _ c.well_formed.0.1.1.1.0.1.0.1, j, ← c.estates_ok.ensures, w.if-estates_ok.false) c.if-domains_ok.false
    ]
