use Rattle.std.proofs.Common.{◌≡◌, refl, ap, ◌∙◌, add-one, arith}
use Rattle.std.proofs.Math.ListN.{length-set}
use Rattle.modes.proofs.Written.{written, computed}
use Rattle.modes.proofs.text.Goals as goal

pub loop-mode-init : goal.loop-mode-init
loop-mode-init c = record { so_far = refl; long = refl }

pub loop-mode-preserved : goal.loop-mode-preserved
loop-mode-preserved c =
    record {
      so_far = rw (c.loop-mode.invariant.so_far, c.digit.ensures, add-one c.loop-mode.mode) refl;
      long = rw length-set c.loop-mode.invariant.long;
    }

pub returns : goal.returns
returns c = let e : c.loop-mode.mode ≡ 256 = omega arith in c.loop-mode.invariant.so_far ∙ ap written e ∙ computed
