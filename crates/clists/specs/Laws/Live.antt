-- What a live capability is: document 01, "How an access is judged", rule 1.
use Rattle.std.specs.Prelude.{ℕ, suc, ◌<◌, ◌≡◌, false, ◌↔◌, eqb}
use Rattle.std.proofs.Math.Path.{refl, ap}
use Rattle.std.proofs.Common.{sym, ◌∙◌, inr, arith}
use Rattle.std.proofs.Math.Bool.{true}
use Rattle.std.proofs.Math.Logic.{⊎_elim}
use Rattle.std.specs.Int.Bits.{and_zero_l}
use borrow.Author.Tests.{eqb-true, eqb-false, not-true}
use Rattle.bounded.specs.Bools.{and_left, and_right}
use Rattle.rights.specs.Modes.{read, grants, holds_none}
use Rattle.rights.specs.Bits.{bit}
use Rattle.rights.specs.Laws.{grants_exactly}
use Rattle.state.specs.Places.{estate_of}
use Rattle.state.specs.Extent.{free}
use Rattle.state.specs.Lookup.{has_base, based, object_based, ordinary_mode, has_password}
use Rattle.state.specs.Laws.Lookup.{base_same, found_or_free}
use Rattle.state.specs.Laws.Passwords.{Ordinary, mode_ordinary, parts_has, free_mode}
use Rattle.state.specs.declared.Capability.{Capability}
use Rattle.state.specs.declared.Table.{Table}
use Rattle.clists.specs.Clist.{named, live}

-- The capability names the base of an object that stands, and shows an ordinary password of it whose mode is positive and holds R.
pub record Live (t : Table) (c : Capability) : Type 0 where
  pub stands : free (named t c) ≡ false
  pub base : (named t c).base ≡ c.page
  pub nonzero : 0 < c.password
  pub ordinary : Ordinary (named t c) c.password
  pub positive : bit 7 (ordinary_mode (named t c) c.password) ≡ 0
  pub reads : bit 0 (ordinary_mode (named t c) c.password) ≡ 1

-- A mode that grants some right is not 0.
pub grants_some : (mode wanted : ℕ) → eqb wanted 0 ≡ false → grants mode wanted ≡ true → 0 < mode
grants_some ℕ.zero wanted n h = absurd (eqb-false wanted 0 n (sym (sym (and_zero_l wanted) ∙ eqb-true _ _ (and_right (holds_none 0 128) _ h))))
grants_some (suc m) wanted n h = omega arith

-- A mode grants R exactly where it is positive and holds R.
grants_read : (mode : ℕ) → grants mode read ≡ true ↔ (bit 7 mode ≡ 0) × (bit 0 mode ≡ 1)
unfolding bit
grants_read mode = (
  λ h. let bits = (grants_exactly mode read).0 h in (bits.0, bits.1 0 refl),
  λ h. (grants_exactly mode read).1 (h.0, λ k e. only k e h.1),
)
  where
    none : (k : ℕ) → bit k 0 ≡ 1 → ⊥
    none ℕ.zero e = omega arith
    none (suc k) e = none k e

    only : (k : ℕ) → bit k read ≡ 1 → bit 0 mode ≡ 1 → bit k mode ≡ 1
    only ℕ.zero e r = r
    only (suc k) e r = absurd (none k e)

module _ (t : Table) (c : Capability) where
  -- A live capability names an object that stands, with its page as the base.
  pub live_named : live t c ≡ true → has_base c.page (named t c) ≡ true
  unfolding live object_based based
  live_named h =
      let p = grants_some (ordinary_mode (named t c) c.password) read refl h in
      ⊎_elim (λ s. s.passes)
      (λ e. let z : ordinary_mode (named t c) c.password ≡ 0 = ap (λ o. ordinary_mode o c.password) e ∙ free_mode c.password in absurd (omega arith))
      (found_or_free (has_base c.page) (estate_of t c.page))

  -- RULE 1: a capability is live exactly so.
  pub live_exactly : live t c ≡ true ↔ Live t c
  unfolding live
  live_exactly = (to, λ l. (grants_read (ordinary_mode (named t c) c.password)).1 (l.positive, l.reads))
    where
      to : live t c ≡ true → Live t c
      to h =
          let named-so = live_named h in
          let shown = mode_ordinary (named t c) c.password (grants_some _ read refl h) in
          let bits = (grants_read (ordinary_mode (named t c) c.password)).0 h in
          record {
            stands = not-true _ (and_left _ _ named-so);
            base = base_same c.page (named t c) named-so;
            nonzero = shown.0;
            ordinary = shown.1;
            positive = bits.0;
            reads = bits.1;
          }

  -- Its page is the base of the object that it names.
  pub live_base : live t c ≡ true → (named t c).base ≡ c.page
  live_base h = (live_exactly.0 h).base

  -- It shows a password of that object.
  pub live_holds : live t c ≡ true → has_password (named t c) c.password ≡ true
  live_holds h = let l = live_exactly.0 h in parts_has (named t c) c.password l.nonzero (inr l.ordinary)

-- Liveness depends only on the object that the capability names.
pub live_local : (t t' : Table) (c : Capability) → named t c ≡ named t' c → live t c ≡ live t' c
unfolding live
live_local t t' c e = rw e
