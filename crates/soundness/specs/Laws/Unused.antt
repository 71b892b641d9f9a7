-- What a sound state holds in each unused place: zeros, and nothing else. Document 02, T-02: a state is one value alone.
use Rattle.std.specs.Prelude.{ℕ, ◌<◌, ◌≤◌, ◌≡◌, true}
use Rattle.state.specs.Places.{no_capability, no_password, free_registration, free_object, empty_frame, slot_at, saved_at, password_at, entry_at, object_at, estate_at, domain_at}
use Rattle.soundness.specs.Sound.{object_ok, sound}
use Rattle.soundness.specs.Laws.ObjectParts.{past_entry, registration_none, object_parts, object_registration, vacant_password}
use Rattle.soundness.specs.Laws.DomainParts.{frame_parts, DomainSound, domain_parts}
use Rattle.soundness.specs.Laws.StateParts.{estate_parts, state_parts}
use Rattle.state.specs.declared.Object.{Object}
use Rattle.state.specs.declared.Domain.{Domain}
use Rattle.state.specs.declared.State.{State}

module _ (s : State) (h : sound s ≡ true) (d : ℕ) (l : d < 4) where
  -- the object at a place of the estate, and the protection domain
  abbrev object : ℕ → Object
  object k = object_at (estate_at s.table d) k

  abbrev domain : Domain
  domain = domain_at s d

  object_ok_lem : (k : ℕ) → k < 8 → object_ok (object k) d ≡ true
  object_ok_lem = (estate_parts (estate_at s.table d) d ((state_parts s h).estate d l)).object

  parts : DomainSound domain
  parts = domain_parts domain ((state_parts s h).domain d l)

  -- A PLACE FOR AN OBJECT, with no pages
  pub unused_object : (k : ℕ) → k < 8 → (object k).pages ≡ 0 → object k ≡ free_object
  unused_object k m = (object_parts (object k) d (object_ok_lem k m)).none

  -- A PLACE FOR A PASSWORD, with the word 0
  pub unused_password : (k i : ℕ) → k < 8 → i < 4 → (password_at (object k) i).word ≡ 0 → password_at (object k) i ≡ no_password
  unused_password k i m = vacant_password (object k) d (object_ok_lem k m) i

  -- A REGISTRATION, with the password 0
  pub unused_registration : (k : ℕ) → k < 8 → (object k).registration.password ≡ 0 → (object k).registration ≡ free_registration
  unused_registration k m =
      registration_none (object k) (object_parts (object k) d (object_ok_lem k m)).entries (object_registration (object k) d (object_ok_lem k m))

  -- AN ENTRY, past the count of its registration
  pub unused_entry : (k i : ℕ) → k < 8 → i < 4 → (object k).registration.count ≤ i → entry_at (object k) i ≡ 0
  unused_entry k i m = past_entry (object k) (object_registration (object k) d (object_ok_lem k m)) i

  -- A SLOT, past the count of the active frame
  pub unused_slot : (i : ℕ) → i < 8 → domain.active.count ≤ i → slot_at domain.active i ≡ no_capability
  unused_slot = (frame_parts domain.active parts.active).past

  -- and past the count of a saved one
  pub unused_saved_slot : (j i : ℕ) → j < domain.depth → i < 8 → (saved_at domain j).count ≤ i → slot_at (saved_at domain j) i ≡ no_capability
  unused_saved_slot j i m = (frame_parts (saved_at domain j) (parts.saved j m)).past i

  -- A PLACE FOR A SAVED DOMAIN, past the depth
  pub unused_saved : (j : ℕ) → j < 4 → domain.depth ≤ j → saved_at domain j ≡ empty_frame
  unused_saved = parts.past
