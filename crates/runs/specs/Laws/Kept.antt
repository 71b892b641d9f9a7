-- What a domain under its whole lock keeps: its lock, its slots and its saved domains, whoever calls.
use Rattle.std.specs.Prelude.{ℕ, ◌≡◌, refl, true, ◌⊎◌, eqb}
use Rattle.std.proofs.Common.{sym, subst, ◌∙◌, true≢false, inl, inr, arith, get_or-set_same}
use Rattle.bounded.specs.Bools.{cond_ind, same_or_not}
use Rattle.state.specs.Places.{no_domain, domain_at}
use Rattle.state.specs.Update.{lock_slot, with_active}
use Rattle.state.specs.declared.Domain.{Domain}
use Rattle.soundness.specs.Sound.{sound}
use Rattle.soundness.specs.Laws.StateParts.{state_parts}
use Rattle.judge.specs.Judged.{judged}
use Rattle.calls.specs.View.{World}
use Rattle.calls.specs.Changes.{apply_all}
use Rattle.calls.specs.Rules.{view, changes}
use Rattle.calls.specs.Runs.{Event, result_of}
use Rattle.calls.specs.Laws.Passed.{Passes, Refuses, Does}
use Rattle.calls.proofs.Passed.{step_cases}
use Rattle.calls.proofs.Locks.{whole_passes}
use Rattle.calls.specs.declared.Call.{Call}
use Rattle.calls.specs.declared.Call.TheVariants.{OnStore, OnObject, OnDomain}
use Rattle.calls.specs.declared.DomainCall.TheVariants.{Insert, Remove, Get, Lock, PdxCall, PdxReturn}
use Rattle.runs.specs.WholeLock.{WholeLocked, GrantedReturn, Keeps}
use Rattle.runs.specs.Laws.Others.{access_leaves, object_leaves, others_leave}

pub keeps_refl : (m : Domain) → m.active.whole ≡ true → Keeps m m
keeps_refl m h = record { whole = h; slots = refl; count = refl; saved = refl; depth = refl }

pub keeps_trans : {m m' m'' : Domain} → Keeps m m' → Keeps m' m'' → Keeps m m''
keeps_trans k l =
    record {
      whole = l.whole;
      slots = l.slots ∙ k.slots;
      count = l.count ∙ k.count;
      saved = l.saved ∙ k.saved;
      depth = l.depth ∙ k.depth;
    }

-- LO leaves slots and saved domains, and the whole lock where it is set
lock_keeps : (m : Domain) (i : ℕ) → m.active.whole ≡ true → Keeps m (with_active m (lock_slot m.active i))
unfolding lock_slot
lock_keeps m i h =
    cond_ind (λ f. Keeps m (with_active m f)) (eqb i 255) _ _
    (λ e. record { whole = refl; slots = refl; count = refl; saved = refl; depth = refl })
    (λ e. record { whole = h; slots = refl; count = refl; saved = refl; depth = refl })

module _ (w : World) (d : ℕ) (h : WholeLocked d w) where
  abbrev own : Domain
  own = domain_at w.state d

  -- the changes of the domain's own calls, returns apart
  own_keeps : (c : Call) → sound w.state ≡ true → Passes w d c → (c ≡ OnDomain PdxReturn → ⊥) → Keeps own (domain_at (apply_all (changes d c (view judged w d c)) w).state d)
  unfolding changes view
  own_keeps (OnStore c) s p n = rw (access_leaves w d d (view judged w d (OnStore c)) c) (keeps_refl own h)
  own_keeps (OnObject c) s p n = rw (object_leaves w d d (view judged w d (OnObject c)) c) (keeps_refl own h)
  own_keeps (OnDomain (Insert i l)) s p n = absurd (true≢false (whole_passes w d (OnDomain (Insert i l)) h p))
  own_keeps (OnDomain (Remove i)) s p n = absurd (true≢false (whole_passes w d (OnDomain (Remove i)) h p))
  own_keeps (OnDomain Get) s p n = keeps_refl own h
  own_keeps (OnDomain (Lock i)) s p n =
      rw (get_or-set_same w.state.domains d (with_active own (lock_slot own.active i)) no_domain (omega (arith, p.domain, (state_parts w.state s).long_domains)))
      (lock_keeps own i h)
  own_keeps (OnDomain (PdxCall a ch)) s p n = absurd (true≢false (whole_passes w d (OnDomain (PdxCall a ch)) h p))
  own_keeps (OnDomain PdxReturn) s p n = absurd (n refl)

  -- ANY CALL BY ANY DOMAIN, but for a granted return of this one, leaves the lock, the slots and the saved domains
  pub step_keeps : (e : Event) → (GrantedReturn d w e → ⊥) → Keeps own (domain_at (result_of w e).outcome.state d)
  step_keeps e n = by (same_or_not d e.domain)
    where
      its : d ≡ e.domain → Refuses w (result_of w e) ⊎ ((sound w.state ≡ true) × Does w e.domain e.call (result_of w e))
          → Keeps own (domain_at (result_of w e).outcome.state d)
      its q (inl (why, r)) = rw r (keeps_refl own h)
      its q (inr (s, (p, r))) =
          rw r
          (subst (λ k. Keeps own (domain_at (apply_all (changes k e.call (view judged w k e.call)) w).state d)) q
          (own_keeps e.call s (subst (λ k. Passes w k e.call) (sym q) p)
          (λ z. n (record { own = sym q; return = z; granted = rw r refl }))))

      by : (d ≡ e.domain) ⊎ (d ≡ e.domain → ⊥) → Keeps own (domain_at (result_of w e).outcome.state d)
      by (inl q) = its q (step_cases w e.domain e.call)
      by (inr ne) = rw (others_leave w e.domain d e.call ne) (keeps_refl own h)
