use borrow.Author.Rules.{rules}
use Rattle.clists.specs.Clist.{live}
use Rattle.clists.proofs.live.Goals as goal

pub object_based-requires : goal.object_based-requires
unfolding live
object_based-requires c = search rules

pub opens-requires : goal.opens-requires
unfolding live
opens-requires c = search rules

pub returns : goal.returns
unfolding live
returns c = rw (← c.object_based.ensures) c.opens.ensures
