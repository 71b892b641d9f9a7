use Rattle.std.proofs.Common.{rules, arith, refl, sym, ◌∙◌, ◌+◌, ◌*◌, drop, add-zero, mul-zero}
use Rattle.std.proofs.lemmas.Iterator.{serves_from_Range, YieldsList-from_range}
use Rattle.std.proofs.lemmas.Iterator.Search.{all_from_yields_List}
use Rattle.layout.proofs.Arrays.{oks_places}
use Rattle.layout.proofs.Bytes.{place_fits}
use Rattle.layout.proofs.parts.array_ok.Goals as goal

pub all-requires-clause-callable : goal.all-requires-clause-callable
all-requires-clause-callable g c = serves_from_Range (λ x q r. search rules) (λ x l h. place_fits g.row.N g.T.Part.SIZE x _ _ h c.requires)

pub returns : goal.returns
returns g c =
    all_from_yields_List (λ i. g.T.Part.layout.ok (drop (c.args.at + g.T.Part.SIZE * i) c.args.bytes.now)) _ _ _ c.all.ensures.ran
    (YieldsList-from_range 0 g.row.N g.row.N refl (omega arith))
    (λ x b q k. (search rules, search rules))
    ∙ sym (simp (mul-zero, add-zero) at (oks_places g.T.Part.layout g.row.N c.args.at 0 c.args.bytes.now))
