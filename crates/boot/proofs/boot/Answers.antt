use mathlib.Core.Path.{sym, ◌∙◌}
use Rattle.calls.specs.Laws.Booted.{boot_known, boot_unknown}
use Rattle.calls.specs.Laws.Returns.{caller_known}
use Rattle.boot.proofs.boot.Goals as goal

pub booted-requires : goal.booted-requires
booted-requires c = (caller_known c.args.store.now c.args.d _ (sym c.caller_of.ensures ∙ c.in-Ok.is)).0.long

pub returns-in-Ok : goal.returns-in-Ok
returns-in-Ok c = c.booted.ensures ∙ boot_known _ _ _ _ (sym c.caller_of.ensures ∙ c.in-Ok.is)

pub returns-in-Err : goal.returns-in-Err
returns-in-Err c = rw (c.answered.ensures, c.empty_state.ensures) (boot_unknown _ _ _ _ (sym c.caller_of.ensures ∙ c.in-Err.is))
