-- The premise on slots and saved slots follows from the others, in every run: a slot is filled by the boot, by IN and by CA, and
-- what these put in lies inside, where neither what a member's call holds nor the lists that it searches are true outside.
mod Inside
mod Frames
mod Objects
mod Steps
mod Boot
use Rattle.std.specs.Prelude.{◌≡◌, true, List, [], ◌∷◌}
use Rattle.soundness.specs.Sound.{sound}
use Rattle.calls.specs.View.{World}
use Rattle.calls.specs.Step.{world_of}
use Rattle.calls.specs.Runs.{Event, result_of}
use Rattle.calls.specs.Laws.Booted.{boot_sound}
use Rattle.calls.proofs.Sound.{step_sound}
use Rattle.isolation.specs.Group.{Group}
use Rattle.isolation.specs.Runs.{Run, start_of}
use Rattle.isolation.specs.Premises.{Along, Premises}
use Rattle.isolation.specs.Slots.{CallsAlong}
use Rattle.isolation.proofs.Slots.Inside.{StateIn, in_premise}
use Rattle.isolation.proofs.Slots.Steps.{step_in}
use Rattle.isolation.proofs.Slots.Boot.{boot_in}

module _ (G : Group) where
  along_in : (w : World) (es : List Event) → sound w.state ≡ true → StateIn G w.state → CallsAlong G w es → Along G w es
  along_in w [] h i p = in_premise G w i
  along_in w (e ∷ es) h i p = (
    in_premise G w i,
    (
      p.0,
      along_in (world_of (result_of w e)) es (step_sound w e.domain e.call h) (step_in G w e.domain h i e.call p.0) p.1,
    ),
  )

  -- THE PREMISE ON SLOTS FOLLOWS: where the calls of a run meet theirs, every state meets its own
  pub slots_follow : (r : Run) → CallsAlong G (start_of r) r.events → Premises G r
  slots_follow r p = along_in (start_of r) r.events (boot_sound r.store r.booter r.plan) (boot_in G r.store r.booter r.plan) p
