use Rattle.std.proofs.Common.{refl, drop-drop, ℕ, ◌≡◌, ◌+◌, ◌-◌, ◌≤◌, length, List, arith, le-leb, length-take, length-drop}
use Rattle.std.specs.Prelude.{take, drop}
use Rattle.calls.specs.Changes.{zeroed}
use Rattle.calls.proofs.words.zero_words.Goals as goal

-- as many zeros as the run has words
run_length : (a n : ℕ) (words : List ℕ) → a + n ≤ length words → length (take (a + n - a) (drop a words)) ≡ n
run_length a n words h = simp (length-take, length-drop) (omega arith)

pub returns-then-n-length : goal.returns-then-n-length
unfolding zeroed
returns-then-n-length c =
    let l : c.args.start + c.args.n ≤ length c.args.store.now = omega (arith, c.if-start-length.true, c.if-n-length.true) in
    let e : c.args.start + c.args.n - c.args.start ≡ c.args.n = omega arith in
    let z = c.fill.ensures.after (λ y h. h) in
    rw (le-leb _ _ l, z, run_length _ _ _ l, e, drop-drop) refl
