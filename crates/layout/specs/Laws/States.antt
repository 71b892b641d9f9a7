-- A state in a slice: no yes or no outside the domains, and what the code of writing leaves.
use Rattle.std.specs.Prelude.{ℕ, ◌≡◌, refl, true, length}
use Rattle.std.proofs.Math.Path.{sym}
use Rattle.std.proofs.Common.{◌∙◌, eq-eqb, ne_eqb}
use mathlib.Core.List.{List, [], append-nil}
use Rattle.codec.specs.Laid.{lay, lay_all}
use Rattle.codec.specs.Number.{number, byte}
use Rattle.state.specs.declared.State.{State}
use Rattle.layout.specs.Sizes.{state_size}
use Rattle.layout.specs.Layout.{capability, password, entries, registration, passwords, object, objects, estate, estates, table, four_bytes, accounts, state}
use Rattle.layout.specs.Whole.{state_of, with_state}

-- no yes or no stands in the object table
pub table_ok : (bs : List ℕ) → table.ok bs ≡ true
unfolding number byte capability password entries registration passwords object objects estate estates table
table_ok bs = refl

-- nor in the accounts
pub accounts_ok : (bs : List ℕ) → accounts.ok bs ≡ true
unfolding byte four_bytes accounts
accounts_ok bs = refl

-- what the code of writing leaves
module _ (s : State) (old : List ℕ) where
  abbrev pub Wrote : List ℕ → Type 0
  Wrote new = (new ≡ with_state old s) × (length old ≡ state_size → state_of new ≡ s)

  pub wrote : (new : List ℕ) → new ≡ lay old 0 (state.put s) → state.fits s → length old ≡ state_size → Wrote new
  unfolding with_state state_of
  wrote new e f l =
      let w : new ≡ state.put s = e ∙ lay_all (state.put s) old (l ∙ sym (state.put_length s)) in
      let g : state.get (state.put s) ≡ s = rw (append-nil (state.put s)) at (state.get_put s [] f) in
      (rw (eq-eqb (length old) state_size l) w, λ _. rw (w, state.put_length s) g)

  pub left : (length old ≡ state_size → ⊥) → Wrote old
  unfolding with_state
  left h = (rw (ne_eqb (length old) state_size h), λ l. absurd (h l))
