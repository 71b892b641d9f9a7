-- The soundness of an estate and of the whole state taken apart and put together.
use Rattle.std.specs.Prelude.{ℕ, ◌+◌, ◌<◌, ◌≤◌, ◌≡◌, true, leb, length}
use Rattle.std.proofs.Common.{leb-true, le-leb, eqb-true, eq-eqb}
use Rattle.bounded.specs.Bools.{and_left, and_right, and_both}
use Rattle.bounded.specs.Every.{below, below_at, below_all}
use Rattle.state.specs.Places.{object_at, estate_at, domain_at, limit_at, set_at}
use Rattle.soundness.specs.Sound.{object_ok, follows, ordered_at, estate_ok, domain_ok, sound_at, accounts_ok, sound}
use Rattle.soundness.specs.Laws.Tests.{all3, all4}
use Rattle.state.specs.declared.Estate.{Estate}
use Rattle.state.specs.declared.Accounts.{Accounts}
use Rattle.state.specs.declared.State.{State}

-- an estate
pub record EstateSound (e : Estate) (d : ℕ) : Type 0 where
  pub long : length e.objects ≡ 8
  pub object : (k : ℕ) → k < 8 → object_ok (object_at e k) d ≡ true
  pub order : (k : ℕ) → k < 7 → follows (object_at e k) (object_at e (k + 1)) ≡ true

-- an estate that passes the test has these bounds
pub estate_parts : (e : Estate) (d : ℕ) → estate_ok e d ≡ true → EstateSound e d
unfolding estate_ok ordered_at
estate_parts e d h =
    let (long, objects, order) = all3 _ _ _ h in
    record {
      long = eqb-true _ 8 long;
      object = below_at 8 (λ k. object_ok (object_at e k) d) objects;
      order = below_at 7 (ordered_at e) order;
    }

-- an estate with these bounds passes the test
pub parts_estate : (e : Estate) (d : ℕ) → EstateSound e d → estate_ok e d ≡ true
unfolding estate_ok ordered_at
parts_estate e d h =
    and_both (and_both (eq-eqb _ 8 h.long) (below_all 8 (λ k. object_ok (object_at e k) d) h.object)) (below_all 7 (ordered_at e) h.order)

-- the accounts
pub record AccountsSound (x : Accounts) : Type 0 where
  pub long_limits : length x.limits ≡ 4
  pub long_sets : length x.sets ≡ 4
  pub limit : (a : ℕ) → a < 4 → limit_at x a ≤ 128
  pub set : (d : ℕ) → d < 4 → set_at x d ≤ 15

-- accounts that pass the test have these bounds
pub accounts_parts : (x : Accounts) → accounts_ok x ≡ true → AccountsSound x
unfolding accounts_ok
accounts_parts x h =
    let (limits, sets, each) = all3 _ _ _ h in
    record {
      long_limits = eqb-true _ 4 limits;
      long_sets = eqb-true _ 4 sets;
      limit = λ a l. leb-true _ 128 (below_at 4 (λ a. leb (limit_at x a) 128) (and_left _ _ each) a l);
      set = λ d l. leb-true _ 15 (below_at 4 (λ d. leb (set_at x d) 15) (and_right (below 4 (λ a. leb (limit_at x a) 128)) _ each) d l);
    }

-- accounts with these bounds pass the test
pub parts_accounts : (x : Accounts) → AccountsSound x → accounts_ok x ≡ true
unfolding accounts_ok
parts_accounts x h =
    and_both (and_both (eq-eqb _ 4 h.long_limits) (eq-eqb _ 4 h.long_sets))
    (and_both (below_all 4 (λ a. leb (limit_at x a) 128) (λ a l. le-leb _ 128 (h.limit a l)))
    (below_all 4 (λ d. leb (set_at x d) 15) (λ d l. le-leb _ 15 (h.set d l))))

-- the whole state
pub record StateSound (s : State) : Type 0 where
  pub long_estates : length s.table.estates ≡ 4
  pub long_domains : length s.domains ≡ 4
  pub estate : (d : ℕ) → d < 4 → estate_ok (estate_at s.table d) d ≡ true
  pub domain : (d : ℕ) → d < 4 → domain_ok (domain_at s d) ≡ true
  pub accounts : accounts_ok s.accounts ≡ true

-- a sound state has these bounds
pub state_parts : (s : State) → sound s ≡ true → StateSound s
unfolding sound sound_at
state_parts s h =
    let (estates, domains, each, accounts) = all4 _ _ _ _ h in
    record {
      long_estates = eqb-true _ 4 estates;
      long_domains = eqb-true _ 4 domains;
      estate = λ d l. and_left _ _ (below_at 4 (sound_at s) each d l);
      domain = λ d l. and_right (estate_ok (estate_at s.table d) d) _ (below_at 4 (sound_at s) each d l);
      accounts = accounts;
    }

-- a state with these bounds is sound
pub parts_state : (s : State) → StateSound s → sound s ≡ true
unfolding sound sound_at
parts_state s h =
    and_both
    (and_both (and_both (eq-eqb _ 4 h.long_estates) (eq-eqb _ 4 h.long_domains))
    (below_all 4 (sound_at s) (λ d l. and_both (h.estate d l) (h.domain d l))))
    h.accounts
