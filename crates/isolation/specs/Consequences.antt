-- What demand 3 comes to for one domain, for the empty group, and for all four domains, is said with these words; ../proofs/Consequences.antt
-- has the theorems.
use Rattle.std.specs.Prelude.{ℕ, ◌<◌, ◌≡◌, true, false, ltb, eqb}
use Rattle.std.proofs.Common.{sym, ◌∙◌, ⊎_elim, arith, eqb-true, lt-ltb}
use Rattle.std.proofs.Math.Bool.{and-true, and-false}
use Rattle.bounded.specs.Bools.{and_no, flag}
use Rattle.state.specs.Pages.{in_set}
use Rattle.calls.specs.Answers.{number_of}
use Rattle.calls.specs.Boot.{home_of, set_of}
use Rattle.isolation.specs.Group.{Group, member}
use Rattle.isolation.specs.Runs.{Run, boot_result, start_of}
use Rattle.isolation.specs.Premises.{AccountsApart, SameAccounts}
use Rattle.isolation.specs.Slots.{CallsAlong}

-- the boot of a run is answered 0
abbrev pub Booted : Run → Type 0
Booted r = number_of (boot_result r).outcome.answer ≡ 0

-- the calls of a run meet their premises
abbrev pub CallsMeet : Group → Run → Type 0
CallsMeet G r = CallsAlong G (start_of r) r.events

-- a domain is booted alike in two runs: its home password, its home account and its set, and the limits of the accounts in the set
pub record BootedAlike (r r' : Run) (d : ℕ) : Type 0 where
  pub home : home_of r.plan d ≡ home_of r'.plan d
  pub accounts : SameAccounts r.plan r'.plan d

-- no account may be charged from inside and from outside in a run
abbrev pub Apart : Group → Run → Type 0
Apart G r = AccountsApart G (set_of r.plan)

-- THE GROUP OF ONE DOMAIN
abbrev pub only : ℕ → Group
only d = record { domains = eqb d }

-- has no other member
pub only_member : (d : ℕ) → d < 4 → (e : ℕ) → member (only d) e ≡ eqb d e
unfolding member
only_member d l e =
    ⊎_elim (λ t. rw (lt-ltb e 4 (omega (arith, eqb-true d e t)))) (λ f. and_no (ltb e 4) f ∙ sym f) (flag (eqb d e))

-- no other domain may charge an account in the set of this one
abbrev pub Unshared : Run → ℕ → Type 0
Unshared r d = (e a : ℕ) → e < 4 → (d ≡ e → ⊥) → in_set (set_of r.plan d) a ≡ true → in_set (set_of r.plan e) a ≡ false

-- THE EMPTY GROUP
abbrev pub nobody : Group
nobody = record { domains = λ d. false }

-- has no member, so its members make no calls
pub nobody_member : (d : ℕ) → member nobody d ≡ false
unfolding member
nobody_member d = and-false (ltb d 4)

-- THE GROUP OF ALL FOUR
abbrev pub everyone : Group
everyone = record { domains = λ d. true }

-- has every domain below 4, and no other
pub everyone_member : (d : ℕ) → member everyone d ≡ ltb d 4
unfolding member
everyone_member d = and-true (ltb d 4)
