use Rattle.std.proofs.Common.{◌∙◌, ◌≡◌, min, arith, eq-eqb, ne_eqb}
use Rattle.state.specs.Update.{merge_list}
use Rattle.updates.proofs.frames.merge_list.Goals.{then-f-eq0, else-f-eq0}
use Rattle.updates.proofs.frames.merge_list.Goals as goal

pub returns : goal.returns
unfolding merge_list
returns c = elim c.if-f-eq0.branch [
  | then-f-eq0 w ↦
      let h : c.if-f-eq0.at ≡ min 1 c.args.f.count = omega (arith, w.at-is, w.min-at.ensures) in
      c.insert_slot.ensures ∙ rw (eq-eqb _ _ w.if-f-eq0.true, h)
  | else-f-eq0 w ↦ c.insert_slot.ensures ∙ rw (ne_eqb _ _ w.if-f-eq0.false, w.at-is)
]
