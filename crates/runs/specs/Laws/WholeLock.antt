-- UNDER THE WHOLE LOCK: one law over any list of calls by any domains.
use Rattle.std.specs.Prelude.{ℕ, List, [], ◌∷◌}
use Rattle.std.proofs.Common.{sym, subst}
use Rattle.calls.specs.View.{World}
use Rattle.calls.specs.Step.{world_of, step}
use Rattle.calls.specs.Runs.{Event, result_of, final}
use Rattle.runs.specs.WholeLock.{WholeLocked, NoReturn, AddsNothing, WholeLockHolds}
use Rattle.runs.specs.Laws.Kept.{keeps_refl, keeps_trans, step_keeps}
use Rattle.runs.specs.Laws.Added.{step_adds}

-- From a world in which a domain is under its whole lock, as long as it makes no granted return, the lock stays, its slots and saved
-- domains stay as they are, and none of its own calls adds a password or a registration to an object that stands.
pub whole_lock_holds : (d : ℕ) (es : List Event) (w : World) → WholeLocked d w → NoReturn d w es → WholeLockHolds d w es
unfolding final
whole_lock_holds d [] w h n = record { keeps = keeps_refl _ h; adds = tt }
whole_lock_holds d (e ∷ es) w h n =
    let k = step_keeps w d h e n.0 in
    let r = whole_lock_holds d es (world_of (result_of w e)) k.whole n.1 in
    record {
      keeps = keeps_trans k r.keeps;
      adds = (λ q. subst (λ x. AddsNothing w.state.table (step w x e.call).outcome.state.table) (sym q) (step_adds w d h e.call), r.adds);
    }
