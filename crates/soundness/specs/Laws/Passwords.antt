-- The passwords of an object that keeps its bounds.
use Rattle.std.specs.Prelude.{ℕ, suc, ◌<◌, ◌≤◌, ◌≡◌, true, ◌⊎◌, get_or}
use Rattle.std.proofs.Common.{sym, ◌∙◌, inl, inr, arith, eq-eqb}
use Rattle.bounded.specs.Bools.{same_or_not}
use Rattle.bounded.specs.Fill.{tabulate_at}
use Rattle.bounded.specs.Place.{found_some}
use Rattle.rights.specs.Modes.{legal}
use Rattle.state.specs.Places.{password_at}
use Rattle.state.specs.Lookup.{place_of, ordinary_mode}
use Rattle.state.specs.Laws.Passwords.{shows, Ordinary, ordinary_some, ordinary_mode_lem}
use Rattle.soundness.specs.Sound.{distinct, all_passwords}
use Rattle.soundness.specs.Laws.Distinct.{distinct_at}
use Rattle.soundness.specs.Laws.ObjectParts.{ObjectBounds}
use Rattle.state.specs.declared.Object.{Object}

-- in an object that keeps its bounds that mode is legal
pub ordinary_legal : (o : Object) (word d : ℕ) → ObjectBounds o d → Ordinary o word → 0 < word → legal (ordinary_mode o word) ≡ true
ordinary_legal o word d b r p = rw (ordinary_mode_lem o word r p) (b.mode (place_of o word) r.within (rw r.there p))

-- a nonzero word does not stand at two places of an object's passwords, that of the registration first
twice : (o : Object) (word i j : ℕ) → distinct (all_passwords o) ≡ true → 0 < word → i < j → j < 5 → get_or (all_passwords o) i 0 ≡ word → get_or (all_passwords o) j 0 ≡ word → ⊥
twice o word i j h p l m a b = omega (arith, distinct_at (all_passwords o) i j l m h (a ∙ sym b))

pub word_at : (o : Object) (k : ℕ) → k < 4 → get_or (all_passwords o) (suc k) 0 ≡ (password_at o k).word
word_at o k l = tabulate_at 4 (λ k. (password_at o k).word) k 0 l

-- where no password stands twice, the place of an ordinary one is its only place
pub ordinary_only : (o : Object) (word k : ℕ) → distinct (all_passwords o) ≡ true → 0 < word → k < 4 → (password_at o k).word ≡ word → place_of o word ≡ k
unfolding place_of
ordinary_only o word k h p l e = go (same_or_not (place_of o word) k)
  where
    r : Ordinary o word
    r = ordinary_some o word k l e

    low : place_of o word ≤ k
    low = (found_some (shows o word) 4 k l (eq-eqb _ _ e)).1

    go : (place_of o word ≡ k) ⊎ (place_of o word ≡ k → ⊥) → place_of o word ≡ k
    go (inl w) = w
    go (inr ne) =
        absurd (twice o word (suc (place_of o word)) (suc k) h p (omega (arith, low)) (omega arith) (word_at o _ r.within ∙ r.there) (word_at o k l ∙ e))

-- and it is not that of the registration
pub ordinary_registration : (o : Object) (word : ℕ) → distinct (all_passwords o) ≡ true → 0 < word → Ordinary o word → o.registration.password ≡ word → ⊥
ordinary_registration o word h p r e = twice o word 0 (suc (place_of o word)) h p (omega arith) (omega arith) e (word_at o _ r.within ∙ r.there)
