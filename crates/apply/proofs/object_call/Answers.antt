use mathlib.Core.Path.{refl, sym, ◌∙◌}
use Rattle.calls.proofs.Parts.{alters_unknown}
use Rattle.calls.specs.Laws.Exits.{exits}
use Rattle.calls.specs.Laws.Returns.{caller_known}
use Rattle.apply.proofs.object_call.Goals as goal

pub returns-in_err-k : goal.returns-in_err-k
returns-in_err-k c =
    alters_unknown _ _ _ _ _ _ (sym c.caller_of.ensures ∙ c.in_err-k.was) (exits c.from_residual.ensures.1 refl)

pub known_call-requires : goal.known_call-requires
known_call-requires c =
    let (e, q) = caller_known c.args.store.now c.args.d _ (sym c.caller_of.ensures ∙ c.in_ok-k.was) in
    rw q e.known

pub returns : goal.returns
returns c =
    let (e, q) = caller_known c.args.store.now c.args.d _ (sym c.caller_of.ensures ∙ c.in_ok-k.was) in
    rw (← q) c.known_call.ensures
