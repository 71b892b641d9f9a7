-- The figure of an account along any list of calls: document 02, T-05. From a boot: ../../proofs/Ledger.antt.
use Rattle.std.specs.Prelude.{ℕ, suc, ◌+◌, ◌<◌, ◌≡◌, refl, true, cond, List, [], ◌∷◌, eqb}
use Rattle.std.proofs.Common.{arith}
use Rattle.std.proofs.lemmas.List.{get_or-replicate}
use Rattle.bounded.specs.Fill.{tabulate_at}
use Rattle.bounded.specs.Sum.{total_same, total_only}
use Rattle.state.specs.Places.{no_object, no_estate, free_object, object_at}
use Rattle.state.specs.Update.{new_object}
use Rattle.state.specs.Pages.{pages_on, estate_pages, pages_of}
use Rattle.state.specs.Laws.Pages.{none_on}
use Rattle.soundness.specs.Sound.{sound}
use Rattle.calls.specs.Answers.{number_of}
use Rattle.calls.specs.View.{World}
use Rattle.calls.specs.Step.{world_of}
use Rattle.calls.specs.Runs.{Event, result_of, final}
use Rattle.calls.specs.Boot.{account_of, limit_of, home_estate, home_pages, boot_accounts, boot_state, boot}
use Rattle.calls.proofs.Sound.{step_sound}
use Rattle.calls.specs.Laws.Plan.{plan_bounds}
use Rattle.calls.specs.Laws.Booted.{boot_hold, boot_done, boot_sound}
use Rattle.runs.specs.Ledger.{created, deleted, WithinLimits}
use Rattle.runs.specs.Laws.Figure.{step_figure, step_limits}

-- from any sound state: the figure at the end and what was deleted is the figure at first and what was created
pub ledger : (a : ℕ) (w : World) (es : List Event) → sound w.state ≡ true
    → pages_of (final w es).state.table a + deleted a w es ≡ pages_of w.state.table a + created a w es
unfolding final created deleted
ledger a w [] h = refl
ledger a w (e ∷ es) h =
    let x = step_figure a w e h in
    let y = ledger a (world_of (result_of w e)) es (step_sound w e.domain e.call h) in
    omega (arith, x, y)

limits_stay : (w : World) (es : List Event) → sound w.state ≡ true → WithinLimits w.state → WithinLimits (final w es).state
unfolding final
limits_stay w [] h l = l
limits_stay w (e ∷ es) h l = limits_stay (world_of (result_of w e)) es (step_sound w e.domain e.call h) (step_limits w e h l)

-- a boot puts each home page on its home account
home_figure : (a : ℕ) (plan : List ℕ) (d : ℕ) → estate_pages a (home_estate plan d) ≡ cond (eqb (account_of plan d) a) 1 0
unfolding estate_pages home_estate new_object
home_figure a plan d = total_only 8 0 (λ k. pages_on a (object_at (home_estate plan d) k)) (omega arith) others
  where
    others : (k : ℕ) → k < 8 → (k ≡ 0 → ⊥) → pages_on a (object_at (home_estate plan d) k) ≡ 0
    others ℕ.zero l ne = absurd (ne refl)
    others (suc k) l ne = rw (get_or-replicate 7 k free_object no_object (omega arith)) (none_on a free_object refl)

pub boot_figure : (a : ℕ) (plan : List ℕ) → pages_of (boot_state plan).table a ≡ home_pages plan a
unfolding pages_of boot_state home_pages
boot_figure a plan = total_same 4 _ _ (λ d l. rw (tabulate_at 4 (home_estate plan) d no_estate l) (home_figure a plan d))

module _ (words : List ℕ) (d : ℕ) (plan : List ℕ) (z : number_of (boot words d plan).outcome.answer ≡ 0) where
  abbrev start : World
  start = world_of (boot words d plan)

  start_limits : WithinLimits start.state
  unfolding boot_state boot_accounts
  start_limits a l =
      let p = plan_bounds plan ((boot_hold words d plan).0 z).1.1.0 in
      rw (boot_done words d plan z) (rw (tabulate_at 4 (limit_of plan) a 0 l) (omega (arith, p.room a l, boot_figure a plan)))

  -- ALONG A RUN FROM A BOOT NO FIGURE PASSES ITS LIMIT
  pub figure_limit : (es : List Event) → WithinLimits (final start es).state
  figure_limit es = limits_stay start es (boot_sound words d plan) start_limits
