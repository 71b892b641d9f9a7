use mathlib.Core.Path.{ap}
use Rattle.replies.specs.declared.Kind.TheVariants as kind
use Rattle.replies.proofs.kinds.call_kind.Goals as goal

pub returns-in-Ok : goal.returns-in-Ok
returns-in-Ok c = rw (← c.caller_of.ensures, c.in-Ok.is) c.known_kind.ensures

pub returns-in-Err : goal.returns-in-Err
returns-in-Err c = rw (← c.caller_of.ensures, c.in-Err.is) (ap kind.Known c.from.ensures)
