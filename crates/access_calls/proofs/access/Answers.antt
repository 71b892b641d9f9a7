use Rattle.access_calls.proofs.access.Goals as goal

pub returns-in-Read : goal.returns-in-Read
returns-in-Read c = rw c.in-Read.is c.read.ensures

pub returns-in-Write : goal.returns-in-Write
returns-in-Write c = rw c.in-Write.is c.write.ensures

pub returns-in-Execute : goal.returns-in-Execute
returns-in-Execute c = rw c.in-Execute.is c.execute.ensures

pub returns-in-Lookup : goal.returns-in-Lookup
returns-in-Lookup c = rw c.in-Lookup.is c.apd_lookup.ensures
