use mathlib.Core.Path.{refl, ◌∙◌, ap}
use native.Mathlib.Omega.{arith}
use lib.ListN.{length, length-set}
use Rattle.text.specs.Spelled.{spelling_none, spelling_two, spelling_one, spelling_all}
use Rattle.text.proofs.cursor.put_digits.Goals.{then-i-eq1, else-i-eq1}
use Rattle.text.proofs.cursor.put_digits.Goals as goal

pub loop-i-init : goal.loop-i-init
loop-i-init c = spelling_none

pub bounds-out-at-in-loop-i : goal.bounds-out-at-in-loop-i
bounds-out-at-in-loop-i c = rw (length-set c.loop-i.out _ _) (omega arith)

pub loop-i-preserved : goal.loop-i-preserved
loop-i-preserved c = spelling_two c.loop-i.invariant c.requires c.loop-i-test.true

pub shape_of-out : goal.shape_of-out
shape_of-out c =
    elim c.if-i-eq1.branch [
      | then-i-eq1 w ↦ ap length w.out-is ∙ length-set c.loop-i.out _ _ ∙ c.loop-i.invariant.same_length
      | else-i-eq1 w ↦ ap length w.out-is ∙ c.loop-i.invariant.same_length
    ]

pub returns : goal.returns
returns c = (
  elim c.if-i-eq1.branch [
    | then-i-eq1 w ↦ rw w.out-is (spelling_all (spelling_one c.loop-i.invariant c.requires w.if-i-eq1.true) c.requires (omega arith))
    | else-i-eq1 w ↦ rw w.out-is (spelling_all c.loop-i.invariant c.requires (omega arith))
  ],
  refl,
)
