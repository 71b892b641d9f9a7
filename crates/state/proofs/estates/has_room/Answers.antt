use Rattle.state.specs.Lookup.{has_room}
use Rattle.state.proofs.estates.has_room.Goals as goal

pub returns : goal.returns
unfolding has_room
returns c = cc
