use mathlib.Core.Path.{◌∙◌}
use Rattle.lines.specs.Gathering.{call_gathered}
use Rattle.lines.proofs.read_call.Goals as goal

pub returns-in_err-call : goal.returns-in_err-call
returns-in_err-call c plan =
    rw c.from_residual-in_err-call.ensures (c.in_err-call.ensures c.args.domain ∙ call_gathered c.args.domain _ _ _ _ c.in_ok-count.ensures)

pub returns : goal.returns
returns c plan = c.in_ok-call.ensures c.args.domain ∙ call_gathered c.args.domain _ _ _ _ c.in_ok-count.ensures
