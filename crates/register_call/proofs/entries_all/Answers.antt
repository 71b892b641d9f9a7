use Rattle.std.proofs.Common.{ℕ, suc, ◌≡◌, refl, ◌∙◌, Bool, false, ◌&&◌, ◌||◌, ◌<◌, leb, arith, [], ◌∷◌, take, rules}
use Rattle.std.proofs.Math.Bool.{and-true, and_assoc}
use Rattle.std.proofs.lemmas.Bool.{lt-leb}
use Rattle.std.proofs.Math.Seq.{take-nil}
use Rattle.std.proofs.lemmas.Iterator.{YieldsList-from_slice, YieldsList-from_take}
use Rattle.std.proofs.lemmas.Iterator.Search.{all_from_yields_List}
use Rattle.std.specs.List.{list_all}
use Rattle.bounded.specs.Every.{below}
use Rattle.register_call.proofs.entries_all.Goals as goal

-- a test of the first n of four
counted : (p : ℕ → Bool) (n a b c d : ℕ)
    → list_all p (take n (a ∷ b ∷ c ∷ d ∷ [])) ≡ ((leb n 0 || p a) && (leb n 1 || p b) && (leb n 2 || p c) && (leb n 3 || p d))
counted p ℕ.zero a b c d = refl
counted p (suc ℕ.zero) a b c d = simp and-true
counted p (suc (suc ℕ.zero)) a b c d = simp and-true
counted p (suc (suc (suc ℕ.zero))) a b c d = simp (and-true, and_assoc)
counted p (suc (suc (suc (suc n)))) a b c d =
    let all : (k : ℕ) → k < 4 → leb (suc (suc (suc (suc n)))) k ≡ false = λ k h. lt-leb _ k (omega arith) in
    rw (take-nil {A = ℕ} n, all 0 (omega arith), all 1 (omega arith), all 2 (omega arith), all 3 (omega arith)) (simp (and-true, and_assoc))

pub returns : goal.returns
unfolding below
returns g c =
    λ p h.
    all_from_yields_List p _ _ _ c.all.ensures.ran (YieldsList-from_take c.args.e.count (YieldsList-from_slice c.in_order.result cc) cc)
    (λ x b q k. search (rules, h))
    ∙ rw c.in_order.ensures (counted p c.args.e.count _ _ _ _)
