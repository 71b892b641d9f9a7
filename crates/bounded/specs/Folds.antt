-- A loop that folds a list from its start, and parts of slices.
use Rattle.std.specs.Prelude.{ℕ, ◌+◌, ◌-◌, ◌<◌, ◌≤◌, ◌≡◌, refl, length, take, drop, get_or}
use Rattle.std.proofs.Common.{◌∙◌, sym, arith, add-one, drop_of_length-le, length-drop, drop-cons, take_all, take-suc}
use mathlib.Core.List.{List, [], ◌∷◌, foldl, foldl-append}

-- at index `i` the fold of the whole list is that of the rest, from `a`
pub record Folding {A : Type 0} (step : A → ℕ → A) (a₀ : A) (s : List ℕ) (i : ℕ) (a : A) : Type 0 where
  pub bound : i ≤ length s
  pub rest : foldl step a₀ s ≡ foldl step a (drop i s)

module _ {A : Type 0} {step : A → ℕ → A} {a₀ : A} {s : List ℕ} where
  pub folding_none : Folding step a₀ s 0 a₀
  folding_none = record { bound = omega arith; rest = refl }

  pub folding_more : {i : ℕ} {a a' : A} → Folding step a₀ s i a → i < length s → a' ≡ step a (get_or s i 0) → Folding step a₀ s (i + 1) a'
  folding_more {i} {a} {a'} f h e =
      record { bound = omega arith; rest = f.rest ∙ rw (e, drop-cons s i 0, ← add-one i) }

  pub folding_all : {i : ℕ} {a : A} → Folding step a₀ s i a → length s ≤ i → a ≡ foldl step a₀ s
  folding_all {i} {a} f h = sym (f.rest ∙ rw (drop_of_length-le s h))

-- the fold of one element more
pub fold_more : {A : Type 0} (step : A → ℕ → A) (a₀ : A) (s : List ℕ) (i : ℕ) → i < length s
    → step (foldl step a₀ (take i s)) (get_or s i 0) ≡ foldl step a₀ (take (i + 1) s)
fold_more step a₀ s i h = sym (rw (add-one i, take-suc s i 0) (foldl-append step a₀ (take i s) (get_or s i 0 ∷ [])))

-- the part `&s[d..]`
pub rest_all : {A : Type 0} (s : List A) (d : ℕ) → take (length s - d) (drop d s) ≡ drop d s
rest_all s d = take_all (length s - d) (drop d s) (omega (arith, length-drop d s))
