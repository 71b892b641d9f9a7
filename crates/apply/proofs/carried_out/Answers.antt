use mathlib.Core.Path.{refl}
use Rattle.apply.proofs.carried_out.Goals as goal

pub returns-in-OnStore : goal.returns-in-OnStore
returns-in-OnStore c = rw (c.in-OnStore.is, c.answered.ensures) (c.access.ensures _ _ c.requires refl refl)

pub returns-in-OnObject : goal.returns-in-OnObject
returns-in-OnObject c = rw (c.in-OnObject.is, c.put_estate.ensures) (c.object_call.ensures.does _ refl refl (λ l. refl))

pub returns-in-OnDomain : goal.returns-in-OnDomain
returns-in-OnDomain c = rw (c.in-OnDomain.is, c.put_domain.ensures) (c.domain_call.ensures _ _ c.requires refl refl)
