-- What the numbers of a boot are where they are in range.
use Rattle.std.specs.Prelude.{ℕ, ◌<◌, ◌≤◌, ◌≡◌, refl, true, not, ◌&&◌, List, leb, ltb, eqb}
use Rattle.std.proofs.Common.{leb-true, ltb-true}
use Rattle.std.proofs.lemmas.Bool.{not-true}
use Rattle.bounded.specs.Bools.{and_left, and_right}
use Rattle.bounded.specs.Every.{below_at}
use Rattle.bounded.specs.Fill.{tabulate_at}
use Rattle.state.specs.Pages.{in_set}
use Rattle.state.specs.Laws.Extent.{not_zero}
use Rattle.soundness.specs.Sound.{accounts_ok}
use Rattle.soundness.specs.Laws.Tests.{all4}
use Rattle.soundness.specs.Laws.StateParts.{parts_accounts}
use Rattle.calls.specs.Boot.{home_of, limit_of, account_of, set_of, boot_accounts, home_pages, homes_ok, limits_ok, sets_ok, room_ok, plan_ok}

-- an account in a set is one of the four
pub in_set_account : (set a : ℕ) → in_set set a ≡ true → a < 4
unfolding in_set
in_set_account set a h = ltb-true a 4 (and_left _ _ h)

-- a plan in range
pub record PlanBounds (plan : List ℕ) : Type 0 where
  pub home : (d : ℕ) → d < 4 → 0 < home_of plan d
  pub low : (a : ℕ) → a < 4 → limit_of plan a ≤ 128
  pub small : (d : ℕ) → d < 4 → set_of plan d ≤ 15
  pub own : (d : ℕ) → d < 4 → in_set (set_of plan d) (account_of plan d) ≡ true
  pub account : (d : ℕ) → d < 4 → account_of plan d < 4
  pub room : (a : ℕ) → a < 4 → home_pages plan a ≤ limit_of plan a

pub plan_bounds : (plan : List ℕ) → plan_ok plan ≡ true → PlanBounds plan
unfolding plan_ok homes_ok limits_ok sets_ok room_ok
plan_bounds plan h =
    let (homes, limits, sets, room) = all4 (homes_ok plan) (limits_ok plan) (sets_ok plan) (room_ok plan) h in
    record {
      home = λ d l. not_zero _ (not-true _ (below_at 4 (λ k. not (eqb (home_of plan k) 0)) homes d l));
      low = λ a l. leb-true _ 128 (and_right (ltb 0 (limit_of plan a)) _ (below_at 4 (λ k. ltb 0 (limit_of plan k) && leb (limit_of plan k) 128) limits a l));
      small = λ d l. leb-true _ 15 (and_left _ _ (below_at 4 (λ k. leb (set_of plan k) 15 && in_set (set_of plan k) (account_of plan k)) sets d l));
      own = λ d l.
          and_right (leb (set_of plan d) 15) _ (below_at 4 (λ k. leb (set_of plan k) 15 && in_set (set_of plan k) (account_of plan k)) sets d l);
      account = λ d l.
          in_set_account _ _
          (and_right (leb (set_of plan d) 15) _ (below_at 4 (λ k. leb (set_of plan k) 15 && in_set (set_of plan k) (account_of plan k)) sets d l));
      room = λ a l. leb-true _ _ (below_at 4 (λ k. leb (home_pages plan k) (limit_of plan k)) room a l);
    }

-- the accounts of such a boot are sound
pub boot_accounts_sound : (plan : List ℕ) → PlanBounds plan → accounts_ok (boot_accounts plan) ≡ true
unfolding boot_accounts
boot_accounts_sound plan p =
    parts_accounts _
    (record {
      long_limits = refl;
      long_sets = refl;
      limit = λ a l. rw (tabulate_at 4 (limit_of plan) a 0 l) (p.low a l);
      set = λ d l. rw (tabulate_at 4 (set_of plan) d 0 l) (p.small d l);
    })
