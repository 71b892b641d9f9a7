-- Which pairs of a Clist name an object; the others say nothing of it.
use Rattle.std.specs.Prelude.{ℕ, ◌*◌, ◌/◌, ◌<◌, ◌≡◌, refl, Bool, true, false, List, eqb, get_or, None, Ok}
use Rattle.std.proofs.Common.{arith, ne_eqb}
use Rattle.rights.specs.Modes.{grants}
use Rattle.state.specs.declared.Object.{Object}
use Rattle.judge.specs.Search.{pair_mode, verdict_of, pair_verdict}
use Rattle.clists.specs.Laws.Live.{grants_some}

-- the first word of pair i has the base as its page
abbrev pub names : List ℕ → ℕ → ℕ → Bool
names list base i = eqb (get_or list (2 * i) 0 / 256) base

-- the mode 0 grants nothing
no_grant : (wanted : ℕ) → 0 < wanted → grants 0 wanted ≡ false
no_grant wanted h = go (grants 0 wanted) refl
  where
    go : (b : Bool) → grants 0 wanted ≡ b → b ≡ false
    go true e = absurd (omega (arith, grants_some 0 wanted (ne_eqb wanted 0 (λ z. omega arith)) e))
    go false e = refl

-- a pair that names another object is passed over
pub other_passed : (list : List ℕ) (start : ℕ) (o : Object) (wanted i : ℕ) → 0 < wanted → names list o.base i ≡ false
    → pair_verdict list start o wanted i ≡ Ok None
unfolding pair_verdict pair_mode verdict_of
other_passed list start o wanted i h m = rw (m, no_grant wanted h)
