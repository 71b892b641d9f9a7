use Rattle.replies.proofs.kinds.known_kind.Goals as goal

pub returns-in-OnStore : goal.returns-in-OnStore
returns-in-OnStore c = rw c.in-OnStore.is

pub returns-in-OnObject : goal.returns-in-OnObject
returns-in-OnObject c = rw c.in-OnObject.is

pub returns-in-OnDomain : goal.returns-in-OnDomain
returns-in-OnDomain c = rw c.in-OnDomain.is
