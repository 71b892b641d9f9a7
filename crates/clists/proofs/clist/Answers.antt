use Prim.Native.Nat.{ℕ, ◌*◌, ◌-◌, ◌≤◌}
use mathlib.Core.Path.{◌≡◌}
use mathlib.Core.List.{List}
use native.Mathlib.Omega.{arith}
use lib.ListN.{length, take}
use Rattle.clists.specs.Clist.{list_end, until_end}
use Rattle.clists.specs.Laws.Ends.{end_at}
use Rattle.clists.specs.Laws.Lists.{run_short}
use Rattle.clists.proofs.clist.Goals as goal

module _ (run : List ℕ) {n : ℕ} (e : n ≡ list_end run) where
  -- the end lies within the run
  within : 2 * n ≤ length run
  within = omega (arith, (end_at run).within)

  -- what stands before it is the list
  list : take (2 * n - 0) run ≡ until_end run
  unfolding until_end
  list = let z : 2 * n - 0 ≡ 2 * n = omega arith in rw (z, e)

pub overflow_mul-end : goal.overflow_mul-end
overflow_mul-end c = let h : length c.run_of-run.result.now ≤ 64 * c.args.pages = rw c.run_of-run.ensures (run_short c.args.store.now c.args.base c.args.pages) in
    let f = within _ c.list_end-end.ensures in omega arith

pub slice_bounds-result-end : goal.slice_bounds-result-end
slice_bounds-result-end c = within _ c.list_end-end.ensures

pub returns : goal.returns
returns c = rw (← c.run_of-run.ensures) (list _ c.list_end-end.ensures)
