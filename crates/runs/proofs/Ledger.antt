-- The figure of an account along any list of calls, from a boot: document 02, T-05.
use Rattle.std.specs.Prelude.{ℕ, ◌+◌, ◌≡◌, List}
use Rattle.std.proofs.Common.{arith}
use Rattle.state.specs.Pages.{pages_of}
use Rattle.calls.specs.Answers.{number_of}
use Rattle.calls.specs.View.{World}
use Rattle.calls.specs.Step.{world_of}
use Rattle.calls.specs.Runs.{Event, final}
use Rattle.calls.specs.Boot.{home_pages, boot}
use Rattle.calls.specs.Laws.Booted.{boot_done, boot_sound}
use Rattle.runs.specs.Ledger.{created, deleted}
use Rattle.runs.specs.Laws.Ledger.{ledger, boot_figure}

module _ (words : List ℕ) (d : ℕ) (plan : List ℕ) (z : number_of (boot words d plan).outcome.answer ≡ 0) where
  abbrev start : World
  start = world_of (boot words d plan)

  -- THE FIGURE OF AN ACCOUNT, that is the pages of all objects on it: what the boot and the granted CRs put on it, without what the granted DLs took
  -- off; here with the latter on the other side
  pub figure_is : (a : ℕ) (es : List Event) → pages_of (final start es).state.table a + deleted a start es ≡ home_pages plan a + created a start es
  figure_is a es =
      let at_first : pages_of start.state.table a ≡ home_pages plan a = rw (boot_done words d plan z) (boot_figure a plan) in
      omega (arith, ledger a start es (boot_sound words d plan), at_first)
