use Rattle.clists.proofs.opens.Goals as goal

pub returns : goal.returns
returns c = rw (← c.ordinary_mode.ensures) c.grants.ensures
