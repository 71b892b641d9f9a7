use Rattle.std.proofs.Common.{ℕ, ltb, cond, rules}
use Rattle.calls.specs.Arguments.{entry_of}
use Rattle.calls.specs.Changes.{registration}
use Rattle.bounded.specs.Made.{from_fn_is}
use Rattle.register_call.proofs.registration.Goals as goal

pub returns : goal.returns
unfolding registration
returns c =
    let kept = λ (k : ℕ). cond (ltb k c.args.e.count) (entry_of c.args.e k) 0 in
    rw (c.capability.ensures, from_fn_is _ kept (λ i y q r. (search rules, search rules)) _ 4 0 c.from_fn.ensures.items)
