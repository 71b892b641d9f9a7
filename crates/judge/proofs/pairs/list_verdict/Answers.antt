use Prim.Native.Nat.{ℕ, ◌≤◌, ◌<◌}
use mathlib.Core.List.{List}
use mathlib.Core.Path.{refl, ap, sym, ◌∙◌}
use native.Mathlib.Omega.{arith}
use Rattle.std.specs.Prelude.{Ok, length, ◌/◌}
use Rattle.std.proofs.lemmas.Result.{err_from_is_err_and}
use Rattle.bounded.specs.Search.{Skipped}
use Rattle.state.specs.declared.Object.{Object}
use Rattle.judge.specs.Search.{denying, pair_verdict, list_first}
use Rattle.judge.specs.Naming.{names, other_passed}
use Rattle.judge.specs.Walk.{list_verdict, or_else, or_found, Walking, walk_next, walk_stop, walk_over, walk_skip}
use Rattle.judge.specs.Search.{Verdict}
use Rattle.judge.proofs.pairs.list_verdict.Goals as goal

module _ (list : List ℕ) (at : ℕ) (o : Object) (wanted : ℕ) where
  -- what the walk knows at pair i
  abbrev AtPair : ℕ → ℕ → Verdict → Type 0
  AtPair n i found = Walking (pair_verdict list at o wanted) (pair_verdict list at o wanted) n i found

  -- pairs that name another object are passed over
  others : (n i j : ℕ) {found : Verdict} → 0 < wanted → AtPair n i found → Skipped (names list o.base) i j → j ≤ n → AtPair n j found
  others n i j h w s l =
      walk_skip j w s.upward l (λ k a b. let e = other_passed list at o wanted k h (s.fails k a b) in (e, e))

pub returns-in_err-v : goal.returns-in_err-v
unfolding list_verdict list_first
returns-in_err-v c =
    let p = err_from_is_err_and c.from_residual.result c.from_residual.ensures.1 in
    let s = c.in-Some.ensures.found in
    let w = others c.args.list.now c.args.start c.args.o c.args.wanted.bits _ _ c.in-Some.i c.requires.1 c.loop-i.invariant.0 s.0 (omega (arith, s.1)) in
    walk_stop w _ s.1 (ap denying (sym c.pair_verdict.ensures ∙ c.in_err-v.was)) (ap denying p.1)

pub loop-i-preserved : goal.loop-i-preserved
unfolding list_verdict list_first
loop-i-preserved c =
    let v = sym c.pair_verdict.ensures ∙ c.in_ok-v.was in
    let s = c.in-Some.ensures.found in
    let w = others c.args.list.now c.args.start c.args.o c.args.wanted.bits _ _ c.in-Some.i c.requires.1 c.loop-i.invariant.0 s.0 (omega (arith, s.1)) in
    let e = ap (or_else (Ok c.loop-i.found)) v ∙ or_found _ _ ∙ ap Ok (sym c.or-found.ensures) in
    (rw (← e) (walk_next w s.1 (ap denying v) (ap denying v)), omega (arith, s.1))

pub returns : goal.returns
unfolding list_verdict list_first
returns c =
    let pairs = length c.args.list.now / 2 in
    let s = c.next_pair.ensures.none (rw c.in_default.is refl) in
    walk_over (others c.args.list.now c.args.start c.args.o c.args.wanted.bits _ _ pairs c.requires.1 c.loop-i.invariant.0 s (omega arith)) (omega arith)
