use mathlib.Core.Path.{ap, ◌∙◌}
use borrow.Author.Tests.{lt-ltb}
use Rattle.std.specs.Prelude.{unwrap_or}
use Rattle.state.specs.Places.{estate_of}
use Rattle.state.specs.Lookup.{has_base, place_based}
use Rattle.state.specs.Laws.Found.{found_or}
use Rattle.state.specs.Laws.Lookup.{place_bound}
use Rattle.calls.proofs.replies.replaces.Goals as goal

pub returns : goal.returns
unfolding place_based
returns c =
    let bound = place_bound (has_base c.args.base) (estate_of c.args.t c.args.base) in
    let at = c.unwrap_or.ensures ∙ ap (λ p. unwrap_or p 8) c.place_based.ensures ∙ found_or 8 _ bound in
    rw (lt-ltb _ _ c.if-base-ge128.false, c.replaced.ensures, at)
