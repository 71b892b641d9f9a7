use Rattle.std.proofs.Common.{◌≡◌, length, rules}
use Rattle.slices.specs.Laws.Valued.{words_alone, words_fields}
use Rattle.slices.proofs.values.value_words.Goals as goal

pub returns-then-f-eq0 : goal.returns-then-f-eq0
returns-then-f-eq0 c = words_alone c.args.value c.args.f c.if-f-eq0.true

pub returns : goal.returns
returns c = let l : length c.args.f.values ≡ 11 = search rules in
    rw c.copy_from_slice.ensures.after (words_fields c.args.value c.args.f c.min-n.result c.if-f-eq0.false c.min-n.ensures l)
