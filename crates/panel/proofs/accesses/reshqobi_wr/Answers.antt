use Rattle.panel.proofs.accesses.reshqobi_wr.Goals as goal

pub returns : goal.returns
returns c = c.call.ensures
