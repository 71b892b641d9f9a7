use native.Mathlib.Omega.{arith}
use Rattle.std.proofs.Common.{rules}
use Rattle.state.specs.Places.{no_domain, no_estate}
use Rattle.bounded.specs.Made.{from_fn_is}
use Rattle.calls.specs.Boot.{boot_state, home_domain, home_estate}
use Rattle.calls.specs.Laws.Plan.{plan_bounds}
use Rattle.boot.proofs.boot_state.Goals as goal

pub returns : goal.returns
unfolding boot_state
returns c =
    rw (
      from_fn_is _ (home_estate c.args.plan) (λ i y q r. (search rules, search rules)) _ 4 no_estate c.from_fn.ensures.items,
      from_fn_is _ (home_domain c.args.plan) (λ i y q r. (search rules, search rules)) _ 4 no_domain c.from_fn-2.ensures.items,
    ) cc
