use Rattle.std.proofs.Common.{length, ◌≡◌}
use Prim.Native.Nat.{◌/◌, ◌≤◌}
use mathlib.Core.Path.{sym}
use native.Mathlib.Omega.{arith}
use Rattle.bounded.specs.Bools.{cond_same}
use Rattle.rights.specs.Modes.{read, grants}
use Rattle.state.specs.Places.{free_object}
use Rattle.state.specs.Lookup.{ordinary_mode, object_based}
use Rattle.state.specs.Laws.Lookup.{based_none}
use Rattle.state.proofs.Past.{past_estate}
use Rattle.clists.specs.Clist.{live}
use Rattle.clists.proofs.opened.Goals as goal

pub returns-in-0 : goal.returns-in-0
unfolding live object_based
returns-in-0 c = rw c.in-0.is c.opened_in.ensures

pub returns-in-1 : goal.returns-in-1
unfolding live object_based
returns-in-1 c = rw c.in-1.is c.opened_in-in-1.ensures

pub returns-in-2 : goal.returns-in-2
unfolding live object_based
returns-in-2 c = rw c.in-2.is c.opened_in-in-2.ensures

pub returns-in-3 : goal.returns-in-3
unfolding live object_based
returns-in-3 c = rw c.in-3.is c.opened_in-in-3.ensures

pub returns-in_default : goal.returns-in_default
unfolding live object_based
returns-in_default c = let h : 4 ≤ c.args.c.page / 32 = omega arith in
    let w : length c.args.t.estates ≡ 4 = c.well_formed.0.1.1.0.1.0.1 in
    rw (past_estate c.args.t _ w h, based_none _) (sym (cond_same (grants (ordinary_mode free_object c.args.c.password) read) 0))
