use Rattle.calls.specs.Laws.Plan.{plan_bounds}
use Rattle.boot.proofs.fn.boot_state.from_fn.Goals as goal

pub home_estate-requires : goal.home_estate-requires
home_estate-requires c = (c.requires.0, (plan_bounds _ c.requires.1).account _ c.requires.0)
