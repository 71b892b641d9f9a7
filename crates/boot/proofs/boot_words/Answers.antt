use Rattle.std.proofs.Common.{◌≡◌, refl, ap, ◌∙◌, arith, add-one}
use Rattle.calls.specs.Boot.{home_pair, boot_words}
use Rattle.calls.specs.Laws.Zeroed.{zeroed_whole}
use Rattle.boot.proofs.boot_words.Invariants.{paired}
use Rattle.boot.proofs.boot_words.Goals as goal

pub loop-d-init : goal.loop-d-init
loop-d-init c = refl

pub loop-d-preserved : goal.loop-d-preserved
loop-d-preserved c = rw add-one (c.home_pair.ensures ∙ ap (home_pair c.args.plan c.loop-d.d) c.loop-d.invariant)

pub returns : goal.returns
unfolding boot_words
returns c =
    let all : c.loop-d.d ≡ 4 = omega arith in
    rw all at c.loop-d.invariant ∙ ap (paired c.args.plan 4) (c.zero_words.ensures ∙ zeroed_whole 8192 _ c.requires)
