-- Two boots with the same members' home passwords and accounts have the same part.
use Rattle.std.specs.Prelude.{ℕ, ◌+◌, ◌*◌, ◌/◌, ◌≡◌, refl, true, List, set}
use Rattle.std.proofs.Common.{◌∙◌, ⊎_elim}
use native.Mathlib.Omega.{arith}
use Rattle.bounded.specs.Bools.{same_or_not}
use Rattle.bounded.specs.Fill.{tabulate}
use Rattle.rights.specs.Modes.{owner}
use Rattle.state.specs.Places.{no_estate, no_domain}
use Rattle.state.specs.Pages.{may_charge}
use Rattle.calls.specs.Answers.{number_of}
use Rattle.calls.specs.Boot.{home_of, limit_of, set_of, home_estate, home_domain, boot_accounts, boot_state, home_pair, boot_words}
use Rattle.calls.specs.Laws.Booted.{boot_hold, boot_done, boot_long, boot_sound}
use Rattle.isolation.specs.Group.{Group, member, inside_address}
use Rattle.isolation.specs.Runs.{Run, boot_result, start_of}
use Rattle.isolation.specs.Members.{member_below}
use Rattle.isolation.specs.Premises.{AccountsApart, SameAccounts}
use Rattle.isolation.specs.Mask.{mask, mask_keeps, mask_tabulate, mask_set_same}
use Rattle.isolation.specs.Accounts.{boot_set, inside_account, inside_member, accounts_part, inside_same}
use Rattle.isolation.specs.Part.{table_part, domains_part, words_part, part}
use Rattle.isolation.proofs.Charged.{boot_apart}
use Rattle.isolation.proofs.Steps.{Good}

module _ (G : Group) (plan plan' : List ℕ) (same : (d : ℕ) → member G d ≡ true → home_of plan d ≡ home_of plan' d)
    (alike : (d : ℕ) → member G d ≡ true → SameAccounts plan plan' d) where
  table_start : table_part G (boot_state plan).table ≡ table_part G (boot_state plan').table
  unfolding table_part boot_state home_estate
  table_start = rw (mask_tabulate (member G) no_estate 4 (home_estate plan) (home_estate plan') (λ d m. rw (same d m, (alike d m).home)))

  domains_start : domains_part G (boot_state plan).domains ≡ domains_part G (boot_state plan').domains
  unfolding domains_part boot_state home_domain
  domains_start = mask_tabulate (member G) no_domain 4 (home_domain plan) (home_domain plan') (λ d m. rw (same d m))

  -- a member may charge the same accounts
  charge_start : (d a : ℕ) → member G d ≡ true → may_charge (boot_accounts plan) d a ≡ may_charge (boot_accounts plan') d a
  charge_start d a m = rw (boot_set plan d (member_below G d m), boot_set plan' d (member_below G d m), (alike d m).set)

  -- and their limits are the same
  limit_start : (a : ℕ) → inside_account G (boot_accounts plan) a ≡ true → limit_of plan a ≡ limit_of plan' a
  limit_start a i =
      ⊎_elim (λ e. e)
      (λ ne. absurd (inside_member G (boot_accounts plan) a i (λ d m c. ne ((alike d m).limit a (rw (boot_set plan d (member_below G d m)) at c)))))
      (same_or_not (limit_of plan a) (limit_of plan' a))

  limits_start : mask (inside_account G (boot_accounts plan)) 0 (boot_accounts plan).limits ≡ mask (inside_account G (boot_accounts plan')) 0 (boot_accounts plan').limits
  unfolding boot_accounts
  limits_start =
      mask_tabulate (inside_account G (boot_accounts plan)) 0 4 (limit_of plan) (limit_of plan') limit_start
      ∙ mask_keeps _ _ 0 (tabulate 4 (limit_of plan')) (inside_same G (boot_accounts plan) (boot_accounts plan') charge_start)

  sets_start : mask (member G) 0 (boot_accounts plan).sets ≡ mask (member G) 0 (boot_accounts plan').sets
  unfolding boot_accounts
  sets_start = mask_tabulate (member G) 0 4 (set_of plan) (set_of plan') (λ d m. (alike d m).set)

  accounts_start : accounts_part G (boot_state plan).accounts ≡ accounts_part G (boot_state plan').accounts
  unfolding accounts_part boot_state
  accounts_start = rw (limits_start, sets_start)

  -- the first pair of a home
  pair_start : (d : ℕ) (words words' : List ℕ) → words_part G words ≡ words_part G words'
      → words_part G (home_pair plan d words) ≡ words_part G (home_pair plan' d words')
  unfolding words_part home_pair
  pair_start d words words' e =
      mask_set_same (inside_address G) 0 (set words (2048 * d) (32 * d * 256 + owner)) (set words' (2048 * d) (32 * d * 256 + owner)) (2048 * d + 1)
      (home_of plan d) (home_of plan' d)
      (mask_set_same (inside_address G) 0 words words' (2048 * d) (32 * d * 256 + owner) (32 * d * 256 + owner) e (λ k. refl))
      (λ k. let own : (2048 * d + 1) / 64 / 32 ≡ d = omega arith in same d (rw own at k))

  words_start : words_part G (boot_words plan) ≡ words_part G (boot_words plan')
  unfolding boot_words
  words_start = pair_start 3 _ _ (pair_start 2 _ _ (pair_start 1 _ _ (pair_start 0 _ _ refl)))

-- A done boot leaves a sound state and a store of 8,192 words, and no object outside on an account inside where the accounts are apart.
pub start_good : (G : Group) (r : Run) → number_of (boot_result r).outcome.answer ≡ 0 → AccountsApart G (set_of r.plan) → Good G (start_of r)
start_good G r h apart =
    record {
      well = boot_sound r.store r.booter r.plan;
      long = boot_long r.store r.booter r.plan h;
      charged =
          rw (boot_done r.store r.booter r.plan h)
          (boot_apart G r.plan ((boot_hold r.store r.booter r.plan).0 h).1.1.0 apart);
    }

-- TWO BOOTS with the same members' home passwords and accounts HAVE THE SAME PART.
pub start_same : (G : Group) (r r' : Run) → number_of (boot_result r).outcome.answer ≡ 0 → number_of (boot_result r').outcome.answer ≡ 0
    → ((d : ℕ) → member G d ≡ true → home_of r.plan d ≡ home_of r'.plan d)
    → ((d : ℕ) → member G d ≡ true → SameAccounts r.plan r'.plan d)
    → part G (start_of r) ≡ part G (start_of r')
start_same G r r' h h' same alike =
    rw (
      boot_done r.store r.booter r.plan h,
      boot_done r'.store r'.booter r'.plan h',
      table_start G r.plan r'.plan same alike,
      domains_start G r.plan r'.plan same alike,
      accounts_start G r.plan r'.plan same alike,
      words_start G r.plan r'.plan same alike,
    )
