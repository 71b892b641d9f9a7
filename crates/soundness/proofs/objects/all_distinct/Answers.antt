use Rattle.std.proofs.Common.{◌≡◌, sym, ◌∙◌}
use Rattle.soundness.specs.Sound.{distinct}
use Rattle.soundness.proofs.Rows.{distinct_cons, distinct_none}
use Rattle.soundness.proofs.objects.all_distinct.Goals as goal

pub returns-then-not-single : goal.returns-then-not-single
returns-then-not-single c =
    let i : distinct c.loop-w.rest.now ≡ distinct c.args.words.now = c.loop-w.invariant in
    rw (← i, c.in-Some.ensures.cases.0, distinct_cons c.in-Some.w.now c.in-Some.others.now, ← c.single.ensures, c.if-not-single.true)

pub loop-w-preserved : goal.loop-w-preserved
loop-w-preserved c =
    let i : distinct c.loop-w.rest.now ≡ distinct c.args.words.now = c.loop-w.invariant in
    let k : distinct c.in-Some.others.now ≡ distinct c.args.words.now =
    rw (← i, c.in-Some.ensures.cases.0, distinct_cons c.in-Some.w.now c.in-Some.others.now, ← c.single.ensures, c.if-not-single.false) in
    k

pub returns : goal.returns
returns c =
    let i : distinct c.loop-w.rest.now ≡ distinct c.args.words.now = c.loop-w.invariant in
    sym (distinct_none _ c.in_default.ensures.cases) ∙ i
