use Rattle.std.proofs.Common.{rules, get_or}
use Rattle.calls.specs.Changes.{frame_fields}
use Rattle.bounded.specs.Made.{from_fn_is}
use Rattle.domain_calls.proofs.frame_fields.Goals as goal

pub returns : goal.returns
unfolding frame_fields
returns c =
    rw (from_fn_is _ (λ i. get_or (frame_fields c.args.f).values i 0) (λ i y q r. (search rules, search rules)) _ 11 0 c.from_fn.ensures.items, c.from.ensures)
