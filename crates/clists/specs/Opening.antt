-- The Clist that a capability opens, looked for in one estate; and what a loop over the estate's objects knows of it.
use Rattle.std.specs.Prelude.{ℕ, ◌+◌, ◌<◌, ◌≤◌, ◌≡◌, Bool, true, false, cond}
use Rattle.std.proofs.Common.{◌∙◌, sym}
use Rattle.bounded.specs.Bools.{cond_same}
use Rattle.bounded.specs.Search.{Searching, start, next, stop, over}
use Rattle.rights.specs.Modes.{read, grants}
use Rattle.state.specs.Places.{free_object, object_at}
use Rattle.state.specs.Lookup.{has_base, based, ordinary_mode}
use Rattle.state.specs.declared.Capability.{Capability}
use Rattle.state.specs.declared.Object.{Object}
use Rattle.state.specs.declared.Estate.{Estate}

-- the pages of an object where the password opens it, else 0
abbrev pub opened_by : Object → ℕ → ℕ
opened_by o password = cond (grants (ordinary_mode o password) read) o.pages 0

-- the pages of the object of an estate that a capability names and opens, 0 where there is none
abbrev pub opened_in : Estate → Capability → ℕ
opened_in e c = opened_by (based e c.page) c.password

-- what a loop over the objects of an estate knows at place k: none before it has the base that the capability names
pub record Opening (e : Estate) (c : Capability) (k : ℕ) : Type 0 where
  pub search : Searching (λ k. has_base c.page (object_at e k)) (object_at e) free_object 8 k

pub opening_start : {e : Estate} {c : Capability} → Opening e c 0
opening_start = record { search = start }

module _ {e : Estate} {c : Capability} {k : ℕ} (s : Opening e c k) where
  pub opening_next : {b : Bool} → k < 8 → b ≡ has_base c.page (object_at e k) → b ≡ false → Opening e c (k + 1)
  opening_next l h p = record { search = next s.search l (sym h ∙ p) }

  pub opening_stop : {b : Bool} {n : ℕ} → k < 8 → b ≡ has_base c.page (object_at e k) → b ≡ true → n ≡ opened_by (object_at e k) c.password
      → n ≡ opened_in e c
  unfolding based
  opening_stop l h p q = rw (← stop s.search l (sym h ∙ p)) q

  pub opening_over : 8 ≤ k → 0 ≡ opened_in e c
  unfolding based
  opening_over l = rw (← over s.search l) (sym (cond_same (grants (ordinary_mode free_object c.password) read) 0))
