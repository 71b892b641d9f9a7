use Rattle.std.proofs.Common.{◌≡◌, ◌+◌, ◌≤◌, true, arith, eqb, length, ◌∙◌, rules, tests}
use Rattle.std.proofs.lemmas.Iterator.Consumers.{YieldsList-at}
use Rattle.std.proofs.lemmas.Iterator.Splits.{YieldsList-from_slice_split}
use Rattle.lines.specs.Gathering.{nothing_gathered, gathering_none, gathering_all, gathering_bad, gathering_more, gathering_next}
use Rattle.lines.specs.Room.{no_room, still_room, held_gathered, held_none, gathering_over}
use Rattle.lines.proofs.Told.{no_number}
use Rattle.lines.proofs.read_numbers.Goals as goal
use Rattle.lines.proofs.read_numbers.Goals.{then-n-into, else-n-into}

pub returns-then-is_empty : goal.returns-then-is_empty
returns-then-is_empty c = held_gathered c.args.all _ _ 0 _ _ (nothing_gathered c.args.t.now c.args.into.now (search rules)) (λ h. omega arith)

pub loop-field-init : goal.loop-field-init
loop-field-init c = (
  gathering_none (search rules)
      (YieldsList-at c.into_iter-field-iterator.ensures.into_iter_gives
      (YieldsList-from_slice_split _ (λ b. eqb b 44) _ c.split-field-items.ensures.rest c.split-field-items.ensures.done c.split-field-items.ensures.closure
      (λ x r q k. search (rules, tests)))),
  λ h. omega arith,
)

pub returns-then-all-n : goal.returns-then-all-n
returns-then-all-n c =
    let h = no_room c.args.all c.loop-field.n (length c.loop-field.into) c.if-all-n.true in
    rw h.0 (gathering_over c.loop-field.invariant.0 {u = c.next.new.self} {x = c.in-Some.field} c.in-Some.ensures.steps (h.1 ∙ c.loop-field.auto.into))

pub returns-in_default : goal.returns-in_default
returns-in_default c =
    held_none c.args.all _ _ _ _
    (gathering_bad c.loop-field.invariant.0 {u = c.next.new.self} {x = c.in-Some.field} c.in-Some.ensures.steps
    (rw (← c.in_default.ensures) (no_number _)))

pub overflow_add-n : goal.overflow_add-n
overflow_add-n c =
    let more = gathering_more c.loop-field.invariant.0 {u = c.next.new.self} {x = c.in-Some.field} c.in-Some.ensures.steps in
    search (rules, more)

pub loop-field-preserved : goal.loop-field-preserved
loop-field-preserved c =
    let next = gathering_next c.loop-field.invariant.0 {u = c.next.new.self} {x = c.in-Some.field} c.in-Some.ensures.steps c.in-Some-number.ensures in
    let room : c.args.all ≡ true → c.loop-field.n + 1 ≤ length c.args.into.now =
    λ h. still_room c.args.all c.loop-field.n (length c.args.into.now) (rw (← c.loop-field.auto.into) c.if-all-n.false) (c.loop-field.invariant.1 h) h in
    elim c.if-n-into.branch [
      | then-n-into w ↦ (rw w.into-is next.0, room)
      | else-n-into w ↦ (rw w.into-is (next.1 (omega (arith, w.if-n-into.false, c.loop-field.auto.into))), room)
    ]

pub returns : goal.returns
returns c =
    held_gathered c.args.all _ _ c.loop-field.n _ _ (gathering_all c.loop-field.invariant.0 c.in-None.ensures.steps) c.loop-field.invariant.1
