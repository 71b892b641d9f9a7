use Rattle.std.specs.Prelude.{Ok, Err}
use Prim.Native.Nat.{ℕ, ◌*◌, ◌<◌, ◌≤◌}
use mathlib.Core.Path.{◌≡◌, refl, ap, sym, ◌∙◌}
use mathlib.Core.Bool.{Bool, true, false, cond}
use mathlib.Core.List.{List, []}
use native.Mathlib.Omega.{arith}
use borrow.Author.Tests.{lt-ltb}
use Rattle.std.proofs.lemmas.Result.{err_from_is_err_and}
use Rattle.bounded.specs.Search.{first}
use Rattle.state.specs.Places.{slot_at}
use Rattle.state.specs.declared.Object.{Object}
use Rattle.state.specs.declared.Table.{Table}
use Rattle.state.specs.declared.Frame.{Frame}
use Rattle.clists.specs.Clist.{named, live, clist, list_at}
use Rattle.judge.specs.Search.{the_denial}
use Rattle.judge.specs.Search.{granting, denying, list_first, slot_first, frame_first, frame_verdict}
use Rattle.clists.specs.Laws.Lists.{list_unused}
use Rattle.judge.specs.Walk.{list_verdict, or_else, or_found, Walking, walk_start, walk_next, walk_stop, walk_over, walk_skip, grant_undenied}
use Rattle.judge.specs.Search.{Verdict}
use Rattle.judge.proofs.frame_verdict.Goals as goal

module _ (t : Table) (words : List ℕ) (f : Frame) (o : Object) (wanted : ℕ) where
  -- what slot k denies, and what it grants
  abbrev denial : ℕ → Verdict
  denial = slot_first denying t words f o wanted

  abbrev grant : ℕ → Verdict
  grant = slot_first granting t words f o wanted

  -- what the walk knows at slot k
  abbrev AtSlot : ℕ → Verdict → Type 0
  AtSlot k found = Walking denial grant 8 k found

  -- what is said of a slot in use, by the Clist of its capability
  abbrev said : ℕ → Verdict
  said k = list_verdict (cond (live t (slot_at f k)) (clist words (named t (slot_at f k))) []) (64 * (slot_at f k).page) o wanted

  used : (k : ℕ) → k < f.count → said k ≡ cond (denying (denial k)) (Err the_denial) (grant k)
  unfolding slot_first list_at list_verdict
  used k h = rw (lt-ltb k f.count h)

  granted : (k : ℕ) → denying (grant k) ≡ false
  unfolding slot_first
  granted k = grant_undenied (list_at t words f k) (64 * (slot_at f k).page) o wanted

  -- a slot in use denies where what is said does; where it does not, what is said is its grant
  denies_as : (k : ℕ) {v : Verdict} → k < f.count → v ≡ said k → denying (denial k) ≡ denying v
  denies_as k h e = go (denying (denial k)) (grant k) (granted k) ∙ ap denying (sym (e ∙ used k h))
    where
      go : (b : Bool) (g : Verdict) → denying g ≡ false → b ≡ denying (cond b (Err the_denial) g)
      go true g e = refl
      go false g e = sym e

  grants_as : (k : ℕ) {v : Verdict} → k < f.count → v ≡ said k → denying (denial k) ≡ false → v ≡ grant k
  grants_as k h e n = e ∙ used k h ∙ rw n

  -- slots that are not in use say nothing
  unused : (k : ℕ) (found : Verdict) → f.count ≤ k → k < 8 → AtSlot k found → AtSlot 8 found
  unfolding slot_first list_first first
  unused k found h l w = walk_skip 8 w (omega arith) (omega arith) (λ j a b. rw (list_unused t words f j (omega arith)) (refl, refl))

pub loop-k-init : goal.loop-k-init
unfolding frame_verdict frame_first
loop-k-init c = walk_start

pub returns-then-count-k : goal.returns-then-count-k
unfolding frame_verdict frame_first
returns-then-count-k c =
    walk_over
    (unused c.args.t c.args.store.now c.args.f c.args.o c.args.wanted.bits c.loop-k.k (Ok c.loop-k.found) c.if-count-k.true c.loop-k-test.true
    c.loop-k.invariant)
    (omega arith)

pub returns-in_err-v : goal.returns-in_err-v
unfolding frame_verdict frame_first
returns-in_err-v c =
    let q = denies_as c.args.t c.args.store.now c.args.f c.args.o c.args.wanted.bits c.loop-k.k c.if-count-k.false c.slot_verdict.ensures in
    let p = err_from_is_err_and c.from_residual.result c.from_residual.ensures.1 in
    walk_stop c.loop-k.invariant _ c.loop-k-test.true (q ∙ ap denying c.in_err-v.was) (ap denying p.1)

pub loop-k-preserved : goal.loop-k-preserved
unfolding frame_verdict frame_first
loop-k-preserved c =
    let n = denies_as c.args.t c.args.store.now c.args.f c.args.o c.args.wanted.bits c.loop-k.k c.if-count-k.false c.slot_verdict.ensures ∙ ap denying c.in_ok-v.was in
    let g = grants_as c.args.t c.args.store.now c.args.f c.args.o c.args.wanted.bits c.loop-k.k c.if-count-k.false c.slot_verdict.ensures n in
    let e = ap (or_else (Ok c.loop-k.found)) (sym g ∙ c.in_ok-v.was) ∙ or_found _ _ ∙ ap Ok (sym c.or-found.ensures) in
    rw (← e) (walk_next c.loop-k.invariant c.loop-k-test.true n (granted c.args.t c.args.store.now c.args.f c.args.o c.args.wanted.bits c.loop-k.k))

pub returns : goal.returns
unfolding frame_verdict frame_first
returns c = walk_over c.loop-k.invariant (omega arith)
