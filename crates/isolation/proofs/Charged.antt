-- Document 02, T-05: along a run no object outside is on an account that a member may charge, so that the figure of such an account is that
-- of the group's part.
use Rattle.std.specs.Prelude.{ℕ, suc, ◌/◌, ◌<◌, ◌≡◌, refl, true, false, List, eqb, get_or, Option}
use Rattle.std.proofs.Common.{sym, ◌∙◌, true≢false, arith, eqb-true}
use Rattle.std.proofs.Math.Logic.{⊎_elim}
use Rattle.bounded.specs.Bools.{same_or_not, cond_ind}
use Rattle.bounded.specs.Fill.{tabulate, tabulate_at}
use Rattle.bounded.specs.Sum.{total_none}
use Rattle.rights.specs.Modes.{destroy, owner}
use Rattle.state.specs.Places.{no_object, no_estate, free_object, object_at, estate_at, domain_at, set_at}
use Rattle.state.specs.Pages.{pages_on, estate_pages}
use Rattle.state.specs.Update.{new_object, add_password, drop_password, with_object, remove_object}
use Rattle.state.specs.declared.Domain.{Domain}
use Rattle.state.specs.declared.Accounts.{Accounts}
use Rattle.state.specs.declared.Object.{Object}
use Rattle.state.specs.declared.State.{State}
use Rattle.judge.specs.Judged.{judged}
use Rattle.judge.specs.declared.Target.TheVariants.{Base}
use Rattle.calls.specs.View.{rights, World, Found, search, object_of, estate_found}
use Rattle.calls.specs.Changes.{registration}
use Rattle.calls.specs.Rules.{view, late, changes}
use Rattle.calls.specs.Step.{step}
use Rattle.calls.specs.Boot.{account_of, set_of, home_estate, boot_accounts, boot_state, plan_ok}
use Rattle.calls.specs.Laws.Plan.{plan_bounds}
use Rattle.calls.specs.Laws.Passed.{Passes}
use Rattle.calls.proofs.Sound.{step_accounts}
use Rattle.calls.specs.declared.Call.{Call}
use Rattle.calls.specs.declared.Call.TheVariants.{OnStore, OnObject, OnDomain}
use Rattle.calls.specs.declared.Access.TheVariants.{Read, Write, Execute, Lookup}
use Rattle.calls.specs.declared.ObjectCall.TheVariants.{Create, Delete, AddPassword, DropPassword, Register}
use Rattle.calls.specs.declared.DomainCall.TheVariants.{Insert, Remove, Get, Lock, PdxCall, PdxReturn}
use Rattle.isolation.specs.Group.{Group, member}
use Rattle.isolation.specs.Members.{member_below}
use Rattle.isolation.specs.Premises.{AccountsApart}
use Rattle.isolation.specs.Kept.{Each, insert_each, free_each, becomes_each, goes_each, Kept, AllKeep, step_keeps}
use Rattle.isolation.specs.Accounts.{boot_set, inside_account, outsider_outside}

module _ (G : Group) where
  -- an outsider with an estate and a set; a number above 3 has neither
  abbrev Outsider : ℕ → Type 0
  Outsider d = (member G d ≡ false) × (d < 4)

  -- an object on an account outside
  abbrev ObjectOut : Accounts → Object → Type 0
  ObjectOut x o = 0 < o.pages → inside_account G x o.account ≡ false

  -- of a domain nothing is asked
  abbrev Any : Domain → Type 0
  Any m = Unit {0}

  -- THE INVARIANT: the accounts are apart, and the outsiders' objects are on accounts outside
  pub record ChargedApart (s : State) : Type 0 where
    pub apart : AccountsApart G (set_at s.accounts)
    pub outside : Kept Outsider (ObjectOut s.accounts) Any s

  -- So the outsiders' estates have no pages on an account inside.
  pub outside_none : (s : State) → ChargedApart s → (a : ℕ) → inside_account G s.accounts a ≡ true → (d : ℕ) → member G d ≡ false → d < 4
      → estate_pages a (estate_at s.table d) ≡ 0
  unfolding estate_pages
  outside_none s h a i d o l = total_none 8 _ (λ k m. each (object_at (estate_at s.table d) k) (h.outside.estates d (o, l) k))
    where
      each : (o : Object) → ObjectOut s.accounts o → pages_on a o ≡ 0
      each o p =
          cond_ind (λ n. n ≡ 0) (eqb o.account a) o.pages 0
          (λ e. ⊎_elim (λ z. z) (λ ne. absurd (true≢false (sym i ∙ rw (eqb-true _ a e) at (p (omega arith))))) (same_or_not o.pages 0))
          (λ e. refl)

  module _ (x : Accounts) where
    -- a free place has no pages
    free_out : ObjectOut x free_object
    free_out p = absurd (omega arith)

    none_out : ObjectOut x no_object
    none_out p = absurd (omega arith)

    -- an object with a password less
    drop_out : (o : Object) (k : ℕ) → ObjectOut x o → ObjectOut x (drop_password o k)
    unfolding drop_password
    drop_out o k h =
        cond_ind (ObjectOut x) (eqb k 0) o _ (λ e. h)
        (λ e. cond_ind (ObjectOut x) (eqb o.registration.password k) _ _ (λ g. h) (λ g. h))

  module _ (w : World) (d : ℕ) (i : ChargedApart w.state) where
    abbrev x : Accounts
    x = w.state.accounts

    -- what the caller's search by a base finds
    abbrev found : ℕ → ℕ → Option Found
    found b r = search judged w (domain_at w.state d).active (rights (Base b) r)

    -- another object in the place of one that was found
    becomes_out : (b r place : ℕ) (o : Object) → (ObjectOut x (object_of (found b r)) → ObjectOut x o) → Outsider (b / 32)
        → Each (ObjectOut x) (with_object (estate_found (found b r)) place o)
    becomes_out b r place o p m =
        becomes_each (ObjectOut x) (free_out x) (none_out x) w (domain_at w.state d).active b r (i.outside.estates (b / 32) m) place o p

    -- and that one gone
    goes_out : (b r place : ℕ) → Outsider (b / 32) → Each (ObjectOut x) (remove_object (estate_found (found b r)) place)
    goes_out b r place m = goes_each (ObjectOut x) (free_out x) (none_out x) w (domain_at w.state d).active b r (i.outside.estates (b / 32) m) place

    -- what a done call changes
    done_out : (c : Call) → Passes w d c → AllKeep Outsider (ObjectOut x) Any (changes d c (view judged w d c))
    unfolding changes view late registration new_object add_password
    done_out (OnStore (Read a)) s = tt
    done_out (OnStore (Write a v)) s = (tt, tt)
    done_out (OnStore (Execute a)) s = tt
    done_out (OnStore (Lookup a r)) s = tt
    done_out (OnObject (Create a n k u)) s = (
      λ m. insert_each (ObjectOut x) (free_out x) (none_out x) (estate_at w.state.table d) (new_object a n k u)
          (λ p. outsider_outside G x i.apart d u m.0 m.1 s.rest.1.0) (i.outside.estates d m),
      (tt, tt),
    )
    done_out (OnObject (Delete b)) s = (goes_out b destroy _, tt)
    done_out (OnObject (AddPassword b k v)) s = (becomes_out b owner _ _ (λ o. o), tt)
    done_out (OnObject (DropPassword b k)) s = (becomes_out b owner _ _ (λ o. drop_out x _ k o), tt)
    done_out (OnObject (Register b k l es)) s = (becomes_out b owner _ _ (λ o. o), tt)
    done_out (OnDomain (Insert j l)) s = (λ m. tt, tt)
    done_out (OnDomain (Remove j)) s = (λ m. tt, tt)
    done_out (OnDomain Get) s = tt
    done_out (OnDomain (Lock j)) s = (λ m. tt, tt)
    done_out (OnDomain (PdxCall a ch)) s = (λ m. tt, tt)
    done_out (OnDomain PdxReturn) s = (λ m. tt, tt)

    -- THE INVARIANT STAYS, whoever calls.
    pub step_apart : (c : Call) → ChargedApart (step w d c).outcome.state
    step_apart c =
        let e = step_accounts w d c in
        record { apart = rw e i.apart; outside = rw e (step_keeps Outsider (ObjectOut x) Any w d c (λ z s. done_out c s) i.outside) }

  -- a home is on its home account, and the other places are free
  home_out : (x : Accounts) (plan : List ℕ) (d : ℕ) → inside_account G x (account_of plan d) ≡ false → Each (ObjectOut x) (home_estate plan d)
  unfolding home_estate new_object
  home_out x plan d h ℕ.zero = λ p. h
  home_out x plan d h (suc k) = free_each (ObjectOut x) (free_out x) (none_out x) 7 k

  -- A BOOT in range, whose accounts are apart, STARTS IT.
  pub boot_apart : (plan : List ℕ) → plan_ok plan ≡ true → AccountsApart G (set_of plan) → ChargedApart (boot_state plan)
  unfolding boot_state
  boot_apart plan ok h = record { apart = apart; outside = record { domains = λ d m. tt; estates = estates } }
    where
      apart : AccountsApart G (set_at (boot_accounts plan))
      apart d e a m o l c = rw (boot_set plan e l) (h d e a m o l (rw (boot_set plan d (member_below G d m)) at c))

      estates : (d : ℕ) → Outsider d → Each (ObjectOut (boot_accounts plan)) (get_or (tabulate 4 (home_estate plan)) d no_estate)
      estates d (o, l) =
          rw (tabulate_at 4 (home_estate plan) d no_estate l)
          (home_out (boot_accounts plan) plan d
          (outsider_outside G (boot_accounts plan) apart d (account_of plan d) o l (rw (boot_set plan d l) ((plan_bounds plan ok).own d l))))
