use Rattle.state.specs.Update.{new_object}
use Rattle.updates.proofs.objects.new_object.Goals as goal

pub returns : goal.returns
unfolding new_object
returns c = rw c.free_object.ensures
