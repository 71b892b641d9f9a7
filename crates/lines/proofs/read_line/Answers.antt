use native.Mathlib.Omega.{arith}
use mathlib.Core.Path.{ap, sym, ◌∙◌}
use Rattle.std.specs.Prelude.{Some, None}
use Rattle.lines.specs.Reading.{plan_kept}
use Rattle.lines.specs.Commas.{too_long, no_domain, no_letters, unknown_letters, by_letters}
use Rattle.lines.proofs.Told.{no_number}
use Rattle.lines.proofs.read_line.Goals as goal

pub returns-then-s-gt-LINE_BYTES : goal.returns-then-s-gt-LINE_BYTES
returns-then-s-gt-LINE_BYTES c = plan_kept None _ (too_long _ (omega arith))

pub returns-in_default : goal.returns-in_default
returns-in_default c = plan_kept None _ (no_domain _ c.if-s-gt-LINE_BYTES.false c.find-d.ensures.0 (rw (← c.in_default.ensures) (no_number _)))

pub returns-then-d-s : goal.returns-then-d-s
returns-then-d-s c = plan_kept None _ (no_letters _ c.if-s-gt-LINE_BYTES.false c.find-d.ensures.0 c.in-Some.ensures c.if-d-s.true)

pub returns-in_default-letters_of : goal.returns-in_default-letters_of
returns-in_default-letters_of c =
    plan_kept None _
    (unknown_letters _ c.if-s-gt-LINE_BYTES.false c.find-d.ensures.0 c.in-Some.ensures (omega arith) c.find-e.ensures.0 c.in_default-letters_of.ensures)

pub returns-in-Boot : goal.returns-in-Boot
returns-in-Boot c =
    rw (← by_letters _ c.if-s-gt-LINE_BYTES.false c.find-d.ensures.0 c.in-Some.ensures (omega arith) c.find-e.ensures.0
    (ap Some (sym c.in-Boot.is) ∙ c.in-Some-letters_of.ensures))
    c.read_boot.ensures

pub returns-in-Call : goal.returns-in-Call
returns-in-Call c =
    plan_kept c.read_call.result _
    (c.read_call.ensures _
    ∙ by_letters _ c.if-s-gt-LINE_BYTES.false c.find-d.ensures.0 c.in-Some.ensures (omega arith) c.find-e.ensures.0
    (ap Some (sym c.in-Call.is) ∙ c.in-Some-letters_of.ensures))
