use Rattle.std.proofs.Common.{ℕ, suc, ◌≡◌, refl, sym, ◌∙◌, arith, rules, Bool, true, false, not, ◌&&◌, ◌||◌, leb, eqb, le-leb}
use Rattle.std.proofs.Common.{List, [], ◌∷◌, length, get_or, take}
use Rattle.std.proofs.Math.Bool.{and-true, and_assoc}
use Rattle.std.proofs.Math.Dec.{leb-suc-zero, leb-suc-suc}
use Rattle.std.specs.List.{list_any}
use Rattle.std.proofs.lemmas.Iterator.{YieldsList-from_slice, YieldsList-from_take}
use Rattle.std.proofs.lemmas.Iterator.Search.{any_from_yields_List}
use borrow.Author.Tests.{tests}
use Rattle.bounded.specs.Every.{below, below_all}
use Rattle.calls.specs.Arguments.{is_entry}
use Rattle.pdx_calls.proofs.is_entry.Goals as goal

-- a test of all places begins with the first
below_front : (n : ℕ) (q : ℕ → Bool) → below (suc n) q ≡ (q 0 && below n (λ k. q (suc k)))
unfolding below
below_front ℕ.zero q = sym (and-true (q 0))
below_front (suc n) q = rw (below_front n q) (and_assoc (q 0) (below n (λ k. q (suc k))) (q (suc n)))

either : (a b : Bool) → (a || not b) ≡ not (not a && b)
either true b = refl
either false b = refl

-- one of the first n elements passes where not each place fails
any_first : (p : ℕ → Bool) (n : ℕ) (xs : List ℕ) → list_any p (take n xs) ≡ not (below (length xs) (λ k. leb n k || not (p (get_or xs k 0))))
unfolding below
any_first p ℕ.zero xs = rw (below_all (length xs) (λ k. leb 0 k || not (p (get_or xs k 0))) (λ k l. rw (le-leb 0 k (omega arith))))
any_first p (suc n) [] = refl
any_first p (suc n) (x ∷ xs) =
    rw (below_front (length xs) (λ k. leb (suc n) k || not (p (get_or (x ∷ xs) k 0))), any_first p n xs)
    (simp (leb-suc-zero, leb-suc-suc) (either (p x) (below (length xs) (λ k. leb n k || not (p (get_or xs k 0))))))

pub returns : goal.returns
unfolding is_entry
returns c =
    let es = c.args.o.registration.entries in
    let long : length es ≡ 4 = search rules in
    any_from_yields_List (λ x. eqb x c.args.address) _ _ _ c.any.ensures.ran
    (YieldsList-from_take c.args.o.registration.count (YieldsList-from_slice es cc) cc) (λ x b q k. search (rules, tests))
    ∙ rw long at (any_first (λ x. eqb x c.args.address) c.args.o.registration.count es)
