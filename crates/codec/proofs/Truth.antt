-- A yes or no that stands in a list of bytes from a place on.
use Rattle.std.specs.Prelude.{ℕ, ◌≡◌, List, eqb, leb, get_or, drop}
use Rattle.std.proofs.Math.Nat.{add-zero}
use Rattle.std.proofs.Math.Seq.{get_or-drop}
use Rattle.codec.specs.Number.{truth}

module _ (s : List ℕ) (at : ℕ) where
  pub truth_at : truth.get (drop at s) ≡ eqb (get_or s at 0) 1
  unfolding truth
  truth_at = simp (get_or-drop, add-zero)

  pub truth_ok : truth.ok (drop at s) ≡ leb (get_or s at 0) 1
  unfolding truth
  truth_ok = simp (get_or-drop, add-zero)
