-- Demand 3: one claim about two whole runs, by document 01, "Two runs and a group", and document 02, T-05 and T-06.
use Rattle.std.specs.Prelude.{ℕ, ◌≡◌, true, get_or}
use Rattle.state.specs.Places.{estate_at, domain_at}
use Rattle.calls.specs.Answers.{number_of}
use Rattle.calls.specs.View.{World}
use Rattle.calls.specs.Boot.{home_of, set_of}
use Rattle.calls.specs.Runs.{final}
use Rattle.isolation.specs.Group.{Group, member, inside_address}
use Rattle.isolation.specs.Runs.{Run, boot_result, start_of, answers, members_calls}
use Rattle.isolation.specs.Premises.{Premises, AccountsApart, SameAccounts}

-- the same inside: every word of the members' estates, whether an object has it or not, their estates and their domains, each the same
-- value. So there are the same objects, on the same accounts, with the same passwords in order of age and the same registrations, and the
-- same slots, locks and saved domains; a sound estate or domain is no more than that (document 02, T-02 and T-06).
pub record SameInside (G : Group) (w w' : World) : Type 0 where
  pub words : (a : ℕ) → inside_address G a ≡ true → get_or w.words a 0 ≡ get_or w'.words a 0
  pub estates : (d : ℕ) → member G d ≡ true → estate_at w.state.table d ≡ estate_at w'.state.table d
  pub domains : (d : ℕ) → member G d ≡ true → domain_at w.state d ≡ domain_at w'.state d

-- what is asked of two runs: both boots answered 0, the same members' home passwords and accounts, in neither an account that members and
-- outsiders may charge, the same members' calls, and the premises in both
pub record Comparable (G : Group) (r r' : Run) : Type 0 where
  pub booted : number_of (boot_result r).outcome.answer ≡ 0
  pub booted' : number_of (boot_result r').outcome.answer ≡ 0
  pub homes : (d : ℕ) → member G d ≡ true → home_of r.plan d ≡ home_of r'.plan d
  pub accounts : (d : ℕ) → member G d ≡ true → SameAccounts r.plan r'.plan d
  pub apart : AccountsApart G (set_of r.plan)
  pub apart' : AccountsApart G (set_of r'.plan)
  pub calls : members_calls G r ≡ members_calls G r'
  pub premises : Premises G r
  pub premises' : Premises G r'

-- what then holds: the members are answered alike, and at the end all that is inside is the same
pub record Isolated (G : Group) (r r' : Run) : Type 0 where
  pub same_answers : answers G (start_of r) r.events ≡ answers G (start_of r') r'.events
  pub same_inside : SameInside G (final (start_of r) r.events) (final (start_of r') r'.events)

-- DEMAND 3: for any group and any two runs
abbrev pub Isolation : Type 0
Isolation = (G : Group) (r r' : Run) → Comparable G r r' → Isolated G r r'
