use Rattle.std.proofs.Common.{◌≡◌, ◌*◌, ◌≤◌}
use Rattle.bounded.specs.Sum.{total}
use Rattle.state.specs.Places.{estate_at}
use Rattle.state.specs.Pages.{estate_pages}
use Rattle.pages.proofs.pages_of.Given as goal

abbrev pub invariant-loop-e : goal.invariant-loop-e
invariant-loop-e l = record { counted : l.pages ≡ total l.e-index (λ d. estate_pages l.a (estate_at l.fn.t d)); fits : l.pages ≤ 65535 * l.e-index }
