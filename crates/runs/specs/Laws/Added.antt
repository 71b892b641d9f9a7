-- What a domain under its whole lock adds to objects: no password, and no registration.
use Rattle.std.specs.Prelude.{ℕ, ◌+◌, ◌-◌, ◌/◌, ◌<◌, ◌≡◌, refl, ◌⊎◌, eqb}
use Rattle.std.proofs.Common.{ap, ◌∙◌, true≢false, inl, inr, arith, get_or-set_same, get_or-set_other}
use Rattle.std.proofs.Math.Path.{sym, subst}
use Rattle.std.proofs.Math.Bool.{true}
use Rattle.bounded.specs.Bools.{and_right, cond_ind, same_or_not}
use Rattle.bounded.specs.Every.{below_at, set_at}
use Rattle.bounded.specs.Fill.{tabulate, tabulate_at}
use Rattle.bounded.specs.Shift.{in_cases, out_cases}
use Rattle.rights.specs.Modes.{destroy, owner}
use Rattle.state.specs.Places.{no_password, no_object, no_estate, free_registration, free_object, password_at, object_at, estate_at, domain_at}
use Rattle.state.specs.Extent.{lies_in, apart}
use Rattle.state.specs.Lookup.{has_base, object_where, place_where, based, object_based, place_above, place_of, ordinary_mode}
use Rattle.state.specs.Update.{new_object, with_passwords, with_registration, password_out, drop_password, with_object, object_in, insert_object, object_out, remove_object, with_estate}
use Rattle.state.specs.Laws.Extent.{drop_run}
use Rattle.state.specs.Laws.Lookup.{Stands, pages_stands, found_or_free, base_single, base_same, based_base}
use Rattle.state.specs.Laws.Passwords.{Ordinary, ordinary_some, ordinary_mode_lem, mode_ordinary, free_mode}
use Rattle.state.specs.declared.Object.{Object}
use Rattle.state.specs.declared.Estate.{Estate}
use Rattle.state.specs.declared.State.{State}
use Rattle.state.specs.declared.Table.{Table}
use Rattle.soundness.specs.Sound.{object_ok, estate_ok, sound}
use Rattle.soundness.specs.Laws.ObjectParts.{object_parts}
use Rattle.soundness.specs.Laws.Passwords.{ordinary_only}
use Rattle.soundness.specs.Laws.StateParts.{estate_parts, state_parts}
use Rattle.soundness.specs.Laws.Found.{only_object, based_sound, based_ok}
use Rattle.judge.specs.Judged.{judged}
use Rattle.judge.specs.declared.Target.TheVariants.{Base}
use Rattle.calls.specs.View.{World}
use Rattle.calls.specs.Arguments.{run_free}
use Rattle.calls.specs.Changes.{apply_all}
use Rattle.calls.specs.Rules.{late, view, changes}
use Rattle.calls.specs.Step.{step}
use Rattle.calls.specs.Laws.Passed.{Passes, Refuses, Does}
use Rattle.calls.proofs.Passed.{step_cases}
use Rattle.calls.specs.Laws.Searched.{was_granted}
use Rattle.calls.proofs.Locks.{whole_passes}
use Rattle.calls.specs.Laws.Fit.{create_range}
use Rattle.calls.specs.declared.Call.{Call}
use Rattle.calls.specs.declared.Call.TheVariants.{OnStore, OnObject, OnDomain}
use Rattle.calls.specs.declared.Access.TheVariants.{Read, Write, Execute, Lookup}
use Rattle.calls.specs.declared.ObjectCall.TheVariants.{Create, Delete, AddPassword, DropPassword, Register}
use Rattle.calls.specs.declared.DomainCall.TheVariants.{Insert, Remove, Get, Lock, PdxCall, PdxReturn}
use Rattle.runs.specs.WholeLock.{WholeLocked, Within, AddsNothing}

-- an object that stays, and one that is gone
within_refl : (o : Object) → Within o o
within_refl o = record { modes = λ word p. refl; registration = λ p. refl }

within_free : (o : Object) → Within o free_object
within_free o = record { modes = λ word p. absurd (omega (arith, free_mode word)); registration = λ p. absurd (omega arith) }

-- a password less
module _ (o : Object) (d : ℕ) (h : object_ok o d ≡ true) (s : 0 < o.pages) where
  -- a word that stands at a place has its mode there
  mode_at : (w k : ℕ) → 0 < w → k < 4 → (password_at o k).word ≡ w → (password_at o k).mode ≡ ordinary_mode o w
  mode_at w k p l e =
      sym (ordinary_mode_lem o w (ordinary_some o w k l e) p ∙ ap (λ i. (password_at o i).mode) (ordinary_only o w k ((object_parts o d h).bounds s).different p l e))

  within_out : (at : ℕ) → Within o (with_passwords o (tabulate 4 (password_out o at)))
  within_out at = record { modes = λ w p. mode w (mode_ordinary rest w p); registration = λ p. refl }
    where
      rest : Object
      rest = with_passwords o (tabulate 4 (password_out o at))

      mode : (w : ℕ) → (0 < w) × Ordinary rest w → ordinary_mode rest w ≡ ordinary_mode o w
      mode w (p, r) =
          let k = place_of rest w in
          let e : password_at rest k ≡ password_out o at k = tabulate_at 4 (password_out o at) k no_password r.within in
          ordinary_mode_lem rest w r p ∙ ap (λ x. x.mode) e
          ∙ out_cases (password_at o) 3 no_password at (λ x. x.word ≡ w → x.mode ≡ ordinary_mode o w) k (λ a. mode_at w k p r.within)
          (λ a b. mode_at w (k + 1) p (omega arith)) (λ a b z. absurd (omega arith)) (sym (ap (λ x. x.word) e) ∙ r.there)

  within_drop : (word : ℕ) → Within o (drop_password o word)
  unfolding drop_password ordinary_mode
  within_drop word =
      cond_ind (Within o) (eqb word 0) o _ (λ e. within_refl o)
      (λ e. cond_ind (Within o) (eqb o.registration.password word) (with_registration o free_registration) _
      (λ g. record { modes = λ w p. refl; registration = λ p. absurd (omega arith) }) (λ g. within_out (place_of o word)))

-- a table that stays
adds_none : (t : Table) → AddsNothing t t
adds_none t base p = within_refl (object_based t base)

module _ (s : State) (h : sound s ≡ true) (d : ℕ) (l : d < 4) where
  abbrev t : Table
  t = s.table

  abbrev e : Estate
  e = estate_at t d

  ok : estate_ok e d ≡ true
  ok = (state_parts s h).estate d l

  -- what an object says, where it has a base at which one stands
  abbrev Adds : Object → Type 0
  Adds o = (b : ℕ) → b / 32 ≡ d → 0 < (object_based t b).pages → has_base b o ≡ true → Within (object_based t b) o

  -- an object of the estate
  old_adds : (k : ℕ) → k < 8 → Adds (object_at e k)
  unfolding object_based based
  old_adds k m b home p own = rw (home, only_object (has_base b) (base_single b) e d k ok m own) (within_refl _)

  -- ANOTHER ESTATE adds nothing where none of its objects does
  estate_adds : (x : Estate) → ((k : ℕ) → k < 8 → Adds (object_at x k)) → AddsNothing t (with_estate s d x).table
  unfolding object_based based
  estate_adds x each b p = go (same_or_not (b / 32) d)
    where
      found : b / 32 ≡ d → Stands (has_base b) x ⊎ (object_where (has_base b) x ≡ free_object) → Within (object_based t b) (object_where (has_base b) x)
      found home (inl f) = subst (Within (object_based t b)) f.there (each _ f.within b home p (rw f.there f.passes))
      found home (inr z) = rw z (within_free _)

      go : (b / 32 ≡ d) ⊎ (b / 32 ≡ d → ⊥) → Within (object_based t b) (object_based (with_estate s d x).table b)
      go (inl home) =
          let put : estate_at (with_estate s d x).table (b / 32) ≡ x =
          ap (λ i. estate_at (with_estate s d x).table i) home ∙ get_or-set_same t.estates d x no_estate (omega (arith, l, (state_parts s h).long_estates)) in
          subst (λ y. Within (object_based t b) (based y b)) (sym put) (found home (found_or_free (has_base b) x))
      go (inr n) = rw (get_or-set_other t.estates d (b / 32) x no_estate n) (within_refl (object_based t b))

  -- a new object: none stood at its base
  created_adds : (o : Object) → 0 < o.pages → run_free e o ≡ true → AddsNothing t (with_estate s d (insert_object e o)).table
  unfolding insert_object run_free object_based based
  created_adds o pages clear =
      estate_adds _
      (λ k m. rw (tabulate_at 8 (object_in e (place_above e o.base) o) k no_object m)
      (in_cases (object_at e) (place_above e o.base) o Adds k (λ a. old_adds k m) (λ a. new) (λ a. old_adds (k - 1) (omega arith))))
    where
      new : Adds o
      new b home p own =
          let f = pages_stands (has_base b) e (rw home at p) in
          absurd (base_single b (object_at e (place_where (has_base b) e)) o (rw f.there f.passes) own (below_at 8 (λ i. apart (object_at e i) o) clear _ f.within))

  -- an object less
  gone_adds : (at : ℕ) → AddsNothing t (with_estate s d (remove_object e at)).table
  unfolding remove_object
  gone_adds at =
      estate_adds _
      (λ k m. rw (tabulate_at 8 (object_out e at) k no_object m)
      (out_cases (object_at e) 7 free_object at Adds k (λ a. old_adds k m) (λ a c. old_adds (k + 1) (omega arith)) (λ a c b home p own. absurd (true≢false (sym own)))))

  -- another object
  becomes_adds : (at : ℕ) (o : Object) → Adds o → AddsNothing t (with_estate s d (with_object e at o)).table
  becomes_adds at o new =
      estate_adds _
      (λ k m. set_at (λ _ x. Adds x) e.objects at o no_object k (omega (arith, (estate_parts e d ok).long)) (λ w. new) (λ ne. old_adds k m))

module _ (w : World) (d : ℕ) (h : WholeLocked d w) where
  -- the changes of the domain's own calls
  own_adds : (c : Call) → sound w.state ≡ true → Passes w d c → AddsNothing w.state.table (apply_all (changes d c (view judged w d c)) w).state.table
  unfolding changes view late new_object
  own_adds (OnStore (Read a)) s p = adds_none _
  own_adds (OnStore (Write a x)) s p = adds_none _
  own_adds (OnStore (Execute a)) s p = adds_none _
  own_adds (OnStore (Lookup a r)) s p = adds_none _
  own_adds (OnObject (Create a n k u)) s p =
      let o = new_object a n k u in
      created_adds w.state s d p.domain o (create_range a n k u p.range).pages (and_right (lies_in o d) _ p.rest.0)
  own_adds (OnObject (Delete b)) s p =
      let g = was_granted w (domain_at w.state d).active (Base b) destroy p.rest.0 in
      rw g.judgement (gone_adds w.state s (b / 32) (based_sound w.state b s g.pages).estate _)
  own_adds (OnObject (AddPassword b k m)) s p = absurd (true≢false (whole_passes w d (OnObject (AddPassword b k m)) h p))
  own_adds (OnObject (DropPassword b k)) s p =
      let g = was_granted w (domain_at w.state d).active (Base b) owner p.rest.0 in
      let o = object_based w.state.table b in
      let same : (c : ℕ) → has_base c (drop_password o k) ≡ true → c ≡ b =
      λ c own. sym (base_same c (drop_password o k) own) ∙ (drop_run o k).base ∙ based_base w.state.table b g.pages in
      rw g.judgement
      (becomes_adds w.state s (b / 32) (based_sound w.state b s g.pages).estate _ (drop_password o k)
      (λ c home q own. rw (same c own) (within_drop o (b / 32) (based_ok w.state b s g.pages) g.pages k)))
  own_adds (OnObject (Register b k l es)) s p = absurd (true≢false (whole_passes w d (OnObject (Register b k l es)) h p))
  own_adds (OnDomain (Insert i l)) s p = adds_none _
  own_adds (OnDomain (Remove i)) s p = adds_none _
  own_adds (OnDomain Get) s p = adds_none _
  own_adds (OnDomain (Lock i)) s p = adds_none _
  own_adds (OnDomain (PdxCall a ch)) s p = adds_none _
  own_adds (OnDomain PdxReturn) s p = adds_none _

  -- NONE OF ITS CALLS ADDS A PASSWORD OR A REGISTRATION to an object that stands
  pub step_adds : (c : Call) → AddsNothing w.state.table (step w d c).outcome.state.table
  step_adds c = go (step_cases w d c)
    where
      go : Refuses w (step w d c) ⊎ ((sound w.state ≡ true) × Does w d c (step w d c)) → AddsNothing w.state.table (step w d c).outcome.state.table
      go (inl (why, r)) = rw r (adds_none _)
      go (inr (s, (p, r))) = rw r (own_adds c s p)
