-- The premises of a run without those on slots. The latter follow: ../proofs/Slots.antt.
use Rattle.std.specs.Prelude.{List, [], ◌∷◌}
use Rattle.calls.specs.View.{World}
use Rattle.calls.specs.Step.{world_of}
use Rattle.calls.specs.Runs.{Event, result_of}
use Rattle.isolation.specs.Group.{Group}
use Rattle.isolation.specs.Premises.{CallPremise}

module _ (G : Group) where
  -- the premises of the calls alone, along a list of calls
  abbrev pub CallsAlong : World → List Event → Type 0
  CallsAlong w [] = Unit {0}
  CallsAlong w (e ∷ es) = CallPremise G w e × CallsAlong (world_of (result_of w e)) es
