use Rattle.std.proofs.Common.{◌/◌, ◌∙◌, sym, ap, rules, ltb, ltb-true, ltb-false}
use Rattle.std.proofs.Math.Logic.{⊎_elim}
use Rattle.bounded.specs.Bools.{flag}
use Rattle.state.specs.Lookup.{covering, object_covering}
use Rattle.state.specs.Laws.Lookup.{covering_none}
use Rattle.state.proofs.Past.{past_estate}
use Rattle.state.proofs.tables.object_covering.Goals as goal

pub returns : goal.returns
unfolding object_covering
returns c =
    ⊎_elim (λ e. let h = c.in_estate.ensures.within (ltb-true _ _ e) in search rules)
    (λ e.
    c.in_estate.ensures.past (ltb-false _ _ e)
    ∙ sym (ap (λ x. covering x c.args.page) (past_estate c.args.t c.args.page c.well_formed.0.1.1.0.1.0.1 (ltb-false _ _ e)) ∙ covering_none c.args.page))
    (flag (ltb (c.args.page / 32) 4))
