-- A call leaves the domains of others as they are.
use Rattle.std.specs.Prelude.{ℕ, ◌≡◌}
use Rattle.std.proofs.Math.Path.{refl}
use Rattle.std.proofs.Common.{ap, ◌∙◌, ⊎_elim}
use Rattle.std.proofs.Math.Seq.{get_or-set_other}
use Rattle.state.specs.Places.{no_domain, domain_at}
use Rattle.judge.specs.Judged.{judged}
use Rattle.calls.specs.View.{World, View}
use Rattle.calls.specs.Changes.{apply_all}
use Rattle.calls.specs.Rules.{view, changes}
use Rattle.calls.specs.Step.{step}
use Rattle.calls.proofs.Passed.{step_cases}
use Rattle.calls.specs.declared.Call.{Call}
use Rattle.calls.specs.declared.Call.TheVariants.{OnStore, OnObject, OnDomain}
use Rattle.calls.specs.declared.Access.{Access}
use Rattle.calls.specs.declared.Access.TheVariants.{Read, Write, Execute, Lookup}
use Rattle.calls.specs.declared.ObjectCall.{ObjectCall}
use Rattle.calls.specs.declared.ObjectCall.TheVariants.{Create, Delete, AddPassword, DropPassword, Register}
use Rattle.calls.specs.declared.DomainCall.TheVariants.{Insert, Remove, Get, Lock, PdxCall, PdxReturn}

module _ (w : World) (e d : ℕ) (v : View) where
  -- accesses and calls on objects change no domain
  pub access_leaves : (c : Access) → domain_at (apply_all (changes e (OnStore c) v) w).state d ≡ domain_at w.state d
  unfolding changes
  access_leaves (Read a) = refl
  access_leaves (Write a x) = refl
  access_leaves (Execute a) = refl
  access_leaves (Lookup a r) = refl

  pub object_leaves : (c : ObjectCall) → domain_at (apply_all (changes e (OnObject c) v) w).state d ≡ domain_at w.state d
  unfolding changes
  object_leaves (Create p n k a) = refl
  object_leaves (Delete b) = refl
  object_leaves (AddPassword b k m) = refl
  object_leaves (DropPassword b k) = refl
  object_leaves (Register b k l es) = refl

  -- the others change the caller's own
  done_others : (d ≡ e → ⊥) → (c : Call) → domain_at (apply_all (changes e c v) w).state d ≡ domain_at w.state d
  unfolding changes
  done_others ne (OnStore c) = access_leaves c
  done_others ne (OnObject c) = object_leaves c
  done_others ne (OnDomain (Insert i l)) = get_or-set_other w.state.domains e d _ no_domain ne
  done_others ne (OnDomain (Remove i)) = get_or-set_other w.state.domains e d _ no_domain ne
  done_others ne (OnDomain Get) = refl
  done_others ne (OnDomain (Lock i)) = get_or-set_other w.state.domains e d _ no_domain ne
  done_others ne (OnDomain (PdxCall a ch)) = get_or-set_other w.state.domains e d _ no_domain ne
  done_others ne (OnDomain PdxReturn) = get_or-set_other w.state.domains e d _ no_domain ne

-- ANOTHER DOMAIN'S CALL, done or refused, leaves a domain's slots, locks and saved domains as they are
pub others_leave : (w : World) (e d : ℕ) (c : Call) → (d ≡ e → ⊥) → domain_at (step w e c).outcome.state d ≡ domain_at w.state d
others_leave w e d c ne =
    ⊎_elim (λ r. ap (λ x. domain_at x.outcome.state d) r.1)
    (λ x. ap (λ y. domain_at y.outcome.state d) x.1.1 ∙ done_others w e d (view judged w e c) ne c) (step_cases w e c)
