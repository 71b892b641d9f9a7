use Rattle.state.specs.Update.{only_list}
use Rattle.updates.proofs.frames.only_list.Goals as goal

pub returns : goal.returns
unfolding only_list
returns c = rw c.empty_frame-f.ensures
