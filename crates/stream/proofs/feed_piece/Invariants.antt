use Prim.Native.Nat.{◌-◌}
use lib.ListN.{length}
use Rattle.state.specs.declared.State.{State}
use Rattle.stream.specs.Run.{Progress}
use Rattle.stream.specs.Feed.{progress_at}
use Rattle.stream.specs.Answered.{Stands}
use Rattle.stream.proofs.feed_piece.Given as goal

abbrev pub invariant-loop-from : goal.invariant-loop-from
invariant-loop-from l =
    let old : State = record { table = l.initial.table; domains = l.initial.domains; accounts = l.initial.accounts } in
    let new : State = record { table = l.table; domains = l.domains; accounts = l.accounts } in
    let start : Progress = progress_at old l.initial.store l.initial.number l.initial.held.bytes l.initial.held.count l.initial.out l.initial.at in
    Stands start l.piece (length l.initial.store) (length l.initial.out) new l.store l.number l.held.bytes l.held.count l.out l.at l.from

abbrev pub decreases-loop-from : goal.decreases-loop-from
decreases-loop-from l = length l.piece - l.from
