use mathlib.Core.Path.{sym, ◌∙◌}
use Rattle.calls.specs.Laws.Returns.{caller_known, by_caller}
use Rattle.apply.proofs.unchecked.Goals as goal

pub carried_out-requires : goal.carried_out-requires
carried_out-requires c = let (e, q) = caller_known c.args.store.now c.args.d _ (sym c.caller_of.ensures ∙ c.in-Ok.is) in
    rw q e.known

pub returns-in-Ok : goal.returns-in-Ok
returns-in-Ok c = let (e, q) = caller_known c.args.store.now c.args.d _ (sym c.caller_of.ensures ∙ c.in-Ok.is) in
    rw (← q) c.carried_out.ensures

pub returns-in-Err : goal.returns-in-Err
returns-in-Err c = rw c.answered.ensures (by_caller _ _ _ _ _ (sym c.caller_of.ensures ∙ c.in-Err.is))
