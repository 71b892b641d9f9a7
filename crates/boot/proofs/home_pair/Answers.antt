use mathlib.Core.Path.{refl}
use lib.ListN.{length-set}
use native.Mathlib.Omega.{arith}
use Rattle.calls.specs.Boot.{home_pair}
use Rattle.boot.proofs.home_pair.Goals as goal

pub bounds-store-d-2 : goal.bounds-store-d-2
unfolding home_pair
bounds-store-d-2 c = simp length-set (omega arith)

pub returns : goal.returns
unfolding home_pair
returns c = refl
