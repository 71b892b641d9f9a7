-- Slots and registered lists that name pages inside: what the premise on slots is proved by.
use Rattle.std.specs.Prelude.{ℕ, ◌<◌, ◌≡◌, true}
use Rattle.bounded.specs.Bools.{or_left}
use Rattle.state.specs.Places.{slot_at, saved_at}
use Rattle.state.specs.declared.Capability.{Capability}
use Rattle.state.specs.declared.Object.{Object}
use Rattle.state.specs.declared.Estate.{Estate}
use Rattle.state.specs.declared.Frame.{Frame}
use Rattle.state.specs.declared.Domain.{Domain}
use Rattle.state.specs.declared.State.{State}
use Rattle.calls.specs.View.{World}
use Rattle.isolation.specs.Group.{Group, member, inside_page}
use Rattle.isolation.specs.Premises.{stays_inside, StatePremise}
use Rattle.isolation.specs.Kept.{Each, Kept}

module _ (G : Group) where
  -- the slots of a frame, of a domain with its saved ones, and the registered list of an object, name pages inside
  abbrev pub Page : Capability → Type 0
  Page c = inside_page G c.page ≡ true

  abbrev pub FrameIn : Frame → Type 0
  FrameIn f = (k : ℕ) → k < f.count → Page (slot_at f k)

  pub record DomainIn (m : Domain) : Type 0 where
    pub active : FrameIn m.active
    pub saved : (k : ℕ) → k < m.depth → FrameIn (saved_at m k)

  abbrev pub ObjectIn : Object → Type 0
  ObjectIn o = 0 < o.registration.password → Page o.registration.list

  abbrev pub EstateIn : Estate → Type 0
  EstateIn e = Each ObjectIn e

  -- so of every member, and of every object inside
  abbrev pub Member : ℕ → Type 0
  Member d = member G d ≡ true

  abbrev pub StateIn : State → Type 0
  StateIn s = Kept Member ObjectIn DomainIn s

  -- Then the premise on slots holds.
  pub in_premise : (w : World) → StateIn w.state → StatePremise G w
  unfolding stays_inside
  in_premise w i =
      record {
        members = λ d m. record {
          slots = λ k l. or_left _ _ ((i.domains d m).active k l);
          saved = λ j n k l. or_left _ _ ((i.domains d m).saved j n k l);
        };
      }
