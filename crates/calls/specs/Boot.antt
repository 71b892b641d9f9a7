-- BT: document 01, "The calls", with the accounts of document 02, T-05.
use Rattle.std.specs.Prelude.{ℕ, ◌+◌, ◌*◌, Bool, not, cond, ◌&&◌, List, [], ◌∷◌, leb, ltb, eqb, get_or, set, replicate, Option, Some, None}
use Rattle.bounded.specs.Every.{below}
use Rattle.bounded.specs.Fill.{tabulate}
use Rattle.bounded.specs.Sum.{total}
use Rattle.rights.specs.Modes.{owner}
use Rattle.state.specs.Places.{free_object, empty_frame, empty_state}
use Rattle.state.specs.Update.{new_object, only_list}
use Rattle.state.specs.Pages.{in_set}
use Rattle.state.specs.declared.Estate.{Estate}
use Rattle.state.specs.declared.Domain.{Domain}
use Rattle.state.specs.declared.Accounts.{Accounts}
use Rattle.state.specs.declared.State.{State}
use Rattle.calls.specs.View.{check, first_failing}
use Rattle.calls.specs.Step.{Result, world, result_of, refused, done_with, store_check}
use Rattle.calls.specs.declared.Refusal.{Refusal}
use Rattle.calls.specs.declared.Refusal.TheVariants.{NoDomain, OutOfRange}

-- The numbers of a boot, its plan, in the order of its line: four home passwords, four limits, then for each domain its home account and its
-- set. How many they are is said here, and in the code in `BOOT_NUMBERS`.
abbrev pub boot_numbers : ℕ
boot_numbers = 16

-- the home password of a domain
abbrev pub home_of : List ℕ → ℕ → ℕ
home_of plan d = get_or plan d 0

-- the limit of an account
abbrev pub limit_of : List ℕ → ℕ → ℕ
limit_of plan a = get_or plan (4 + a) 0

-- the home account of a domain, and the set of accounts that it may charge
abbrev pub account_of : List ℕ → ℕ → ℕ
account_of plan d = get_or plan (8 + 2 * d) 0

abbrev pub set_of : List ℕ → ℕ → ℕ
set_of plan d = get_or plan (9 + 2 * d) 0

-- each domain has one object, the first page of its estate, with its home password in the owner's mode, on its home account
unfoldable pub home_estate : List ℕ → ℕ → Estate
home_estate plan d = record { objects = new_object (32 * d) 1 (home_of plan d) (account_of plan d) ∷ replicate 7 free_object }

-- its one slot names that object and shows that password; no locks, nothing saved
unfoldable pub home_domain : List ℕ → ℕ → Domain
home_domain plan d =
    record { active = only_list (record { page = 32 * d; password = home_of plan d }); saved = replicate 4 empty_frame; depth = 0 }

unfoldable pub boot_accounts : List ℕ → Accounts
boot_accounts plan = record { limits = tabulate 4 (limit_of plan); sets = tabulate 4 (set_of plan) }

unfoldable pub boot_state : List ℕ → State
boot_state plan =
    record { table = record { estates = tabulate 4 (home_estate plan) }; domains = tabulate 4 (home_domain plan); accounts = boot_accounts plan }

-- the first pair of the object names it too
unfoldable pub home_pair : List ℕ → ℕ → List ℕ → List ℕ
home_pair plan d words = set (set words (2048 * d) (32 * d * 256 + owner)) (2048 * d + 1) (home_of plan d)

-- all other words are zero
unfoldable pub boot_words : List ℕ → List ℕ
boot_words plan = home_pair plan 3 (home_pair plan 2 (home_pair plan 1 (home_pair plan 0 (replicate 8192 0))))

-- a refused boot gives the empty state, and the store as it was
abbrev pub booted : List ℕ → List ℕ → Option Refusal → Result
booted plan words None = result_of (done_with (boot_state plan) 0) (boot_words plan)
booted plan words (Some r) = refused (world empty_state words) r

-- 5: no home password is zero
unfoldable pub homes_ok : List ℕ → Bool
homes_ok plan = below 4 (λ d. not (eqb (home_of plan d) 0))

-- a limit is 1 to 128 pages, also where nobody may charge the account
unfoldable pub limits_ok : List ℕ → Bool
limits_ok plan = below 4 (λ a. ltb 0 (limit_of plan a) && leb (limit_of plan a) 128)

-- a set is 0 to 15, and has the home account
unfoldable pub sets_ok : List ℕ → Bool
sets_ok plan = below 4 (λ d. leb (set_of plan d) 15 && in_set (set_of plan d) (account_of plan d))

-- the home pages on an account, one for each domain whose home account it is; a limit has room for them
unfoldable pub home_pages : List ℕ → ℕ → ℕ
home_pages plan a = total 4 (λ d. cond (eqb (account_of plan d) a) 1 0)

unfoldable pub room_ok : List ℕ → Bool
room_ok plan = below 4 (λ a. leb (home_pages plan a) (limit_of plan a))

unfoldable pub plan_ok : List ℕ → Bool
plan_ok plan = homes_ok plan && limits_ok plan && sets_ok plan && room_ok plan

-- BT behind checks 2 and 4
abbrev pub booted_by : List ℕ → List ℕ → Result
booted_by words plan = booted plan words (first_failing (check OutOfRange (plan_ok plan) ∷ []))

-- BT by a domain on the words of a store: 2, 4 and 5
unfoldable pub boot : List ℕ → ℕ → List ℕ → Result
boot words d plan =
    booted plan words
    (first_failing
    (store_check (world empty_state words)
    ∷ check NoDomain (ltb d 4)
    ∷ check OutOfRange (plan_ok plan)
    ∷ []))
