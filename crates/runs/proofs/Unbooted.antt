-- Before a boot, behind any list of calls: document 02, T-05 and T-06.
use Rattle.std.specs.Prelude.{List, [], ◌∷◌}
use Rattle.calls.specs.View.{World}
use Rattle.calls.specs.Step.{world_of}
use Rattle.calls.specs.Runs.{Event, result_of, final}
use Rattle.runs.specs.Laws.Unbooted.{Unbooted, step_unbooted}

-- BEFORE A BOOT EVERY FIGURE IS 0, behind any list of calls
pub stays_unbooted : (w : World) (es : List Event) → Unbooted w.state → Unbooted (final w es).state
unfolding final
stays_unbooted w [] u = u
stays_unbooted w (e ∷ es) u = stays_unbooted (world_of (result_of w e)) es (step_unbooted w e u)
