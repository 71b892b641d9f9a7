-- The bounds of AP's arguments that are in range.
use Prim.Native.Nat.{ℕ, ◌<◌}
use mathlib.Core.Path.{◌≡◌}
use mathlib.Core.Bool.{true, not, ◌&&◌}
use lib.Dec.{ltb, eqb}
use borrow.Author.Tests.{ltb-true}
use Rattle.bounded.specs.Bools.{and_left, and_right}
use Rattle.rights.specs.Laws.{legal_below}
use Rattle.calls.specs.Rules.{in_range}
use Rattle.calls.specs.declared.Call.TheVariants.{OnObject}
use Rattle.calls.specs.declared.ObjectCall.TheVariants.{AddPassword}

pub add_range : (b k m : ℕ) → in_range (OnObject (AddPassword b k m)) ≡ true → (b < 128) × (m < 256)
unfolding in_range
add_range b k m h =
    let first = ltb b 128 && not (eqb k 0) in
    (ltb-true b 128 (and_left _ _ (and_left first _ h)), legal_below m (and_right first _ h))
