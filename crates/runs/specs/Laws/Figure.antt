-- Each call moves the figure of an account by what it is granted to create and delete, and takes none above its limit.
use Rattle.std.specs.Prelude.{ℕ, ◌+◌, ◌/◌, ◌<◌, ◌≤◌, ◌≡◌, true, cond, ◌⊎◌, leb, eqb}
use Rattle.std.proofs.Math.Path.{refl}
use Rattle.std.proofs.Common.{inl, inr, arith, leb-true, eqb-true, ne_eqb}
use Rattle.bounded.specs.Bools.{cond_ind}
use Rattle.rights.specs.Modes.{destroy, owner}
use Rattle.state.specs.Places.{estate_at, domain_at, limit_at}
use Rattle.state.specs.Lookup.{has_base, place_where, has_room, place_based, based, object_based}
use Rattle.state.specs.Update.{new_object, add_password, drop_password, with_object, insert_object, remove_object, with_estate}
use Rattle.state.specs.Pages.{pages_on, pages_of}
use Rattle.state.specs.Laws.Pages.{put_pages, insert_pages, remove_pages, estate_figure}
use Rattle.state.specs.declared.Object.{Object}
use Rattle.state.specs.declared.Frame.{Frame}
use Rattle.state.specs.declared.Table.{Table}
use Rattle.soundness.specs.Sound.{sound}
use Rattle.soundness.specs.Laws.StateParts.{state_parts, estate_parts}
use Rattle.judge.specs.Judged.{judged}
use Rattle.judge.specs.declared.Target.TheVariants.{Base}
use Rattle.calls.specs.Answers.{refusal_number}
use Rattle.calls.specs.View.{World, is_some, object_of, estate_found}
use Rattle.calls.specs.Changes.{registration, apply_all}
use Rattle.calls.specs.Rules.{late, changes, view}
use Rattle.calls.specs.Runs.{Event, result_of}
use Rattle.calls.specs.Laws.Order.{refusal_number_lem}
use Rattle.calls.specs.Laws.Passed.{Passes, Refuses, Does}
use Rattle.calls.proofs.Passed.{step_cases}
use Rattle.calls.specs.Laws.Searched.{was_granted}
use Rattle.calls.specs.Laws.Fit.{owned, found}
use Rattle.calls.proofs.Sound.{step_accounts}
use Rattle.calls.specs.declared.Call.{Call}
use Rattle.calls.specs.declared.Call.TheVariants.{OnStore, OnObject, OnDomain}
use Rattle.calls.specs.declared.Access.TheVariants.{Read, Write, Execute, Lookup}
use Rattle.calls.specs.declared.ObjectCall.TheVariants.{Create, Delete, AddPassword, DropPassword, Register}
use Rattle.calls.specs.declared.DomainCall.TheVariants.{Insert, Remove, Get, Lock, PdxCall, PdxReturn}
use Rattle.runs.specs.Ledger.{new_pages, gone_pages, granted, WithinLimits}

-- the same pages on the same account
record SameCharge (o o' : Object) : Type 0 where
  pages : o.pages ≡ o'.pages
  account : o.account ≡ o'.account

drop_charge : (o : Object) (k : ℕ) → SameCharge (drop_password o k) o
unfolding drop_password
drop_charge o k =
    cond_ind (λ x. SameCharge x o) (eqb k 0) o _ (λ e. record { pages = refl; account = refl })
    (λ e. cond_ind (λ x. SameCharge x o) (eqb o.registration.password k) _ _ (λ r. record { pages = refl; account = refl })
    (λ r. record { pages = refl; account = refl }))

module _ (a : ℕ) (w : World) (d : ℕ) (h : sound w.state ≡ true) where
  abbrev t : Table
  t = w.state.table

  abbrev frame : Frame
  frame = (domain_at w.state d).active

  -- an object that was found becomes another
  becomes_figure : (b r : ℕ) (o : Object) → is_some (owned w frame b r) ≡ true
      → pages_of (with_estate w.state (b / 32) (with_object (estate_found (owned w frame b r)) (place_based (estate_found (owned w frame b r)) b) o)).table a
      + pages_on a (object_based t b)
      ≡ pages_of t a + pages_on a o
  unfolding object_based based place_based
  becomes_figure b r o s =
      let g = was_granted w frame (Base b) r s in
      let f = found w frame b r h s in
      let e = estate_at t (b / 32) in
      let place = place_where (has_base b) e in
      let x = estate_figure a w.state (b / 32) (with_object e place o) f.estate (state_parts w.state h).long_estates in
      let y = rw f.stands.there at (put_pages a e place o f.stands.within (estate_parts e (b / 32) f.sound_estate).long) in
      rw g.judgement (omega (arith, x, y))

  -- with its charge, the figure stays
  kept_figure : (b r : ℕ) (o : Object) → is_some (owned w frame b r) ≡ true → SameCharge o (object_of (owned w frame b r))
      → pages_of (with_estate w.state (b / 32) (with_object (estate_found (owned w frame b r)) (place_based (estate_found (owned w frame b r)) b) o)).table a + 0
      ≡ pages_of t a + 0
  kept_figure b r o s m =
      let g = was_granted w frame (Base b) r s in
      let same : object_of (owned w frame b r) ≡ object_based t b = rw g.judgement in
      let y : pages_on a o ≡ pages_on a (object_based t b) = rw (m.pages, m.account, same) in
      omega (arith, becomes_figure b r o s, y)

  -- an object that was found goes
  goes_figure : (b r : ℕ) → is_some (owned w frame b r) ≡ true
      → pages_of (with_estate w.state (b / 32) (remove_object (estate_found (owned w frame b r)) (place_based (estate_found (owned w frame b r)) b))).table a
      + pages_on a (object_based t b)
      ≡ pages_of t a + 0
  unfolding object_based based place_based
  goes_figure b r s =
      let g = was_granted w frame (Base b) r s in
      let f = found w frame b r h s in
      let e = estate_at t (b / 32) in
      let place = place_where (has_base b) e in
      let x = estate_figure a w.state (b / 32) (remove_object e place) f.estate (state_parts w.state h).long_estates in
      let y = rw f.stands.there at (remove_pages a e place f.stands.within) in
      rw g.judgement (omega (arith, x, y))

  -- a new object
  new_figure : (p n k u : ℕ) → d < 4 → has_room (estate_at t d) ≡ true
      → pages_of (with_estate w.state d (insert_object (estate_at t d) (new_object p n k u))).table a + 0 ≡ pages_of t a + cond (eqb u a) n 0
  unfolding new_object
  new_figure p n k u l r =
      let x = estate_figure a w.state d (insert_object (estate_at t d) (new_object p n k u)) l (state_parts w.state h).long_estates in
      let y = insert_pages a (estate_at t d) (new_object p n k u) r in
      omega (arith, x, y)

  -- a done call moves the figure by what it creates and deletes
  done_figure : (c : Call) → Passes w d c
      → pages_of (apply_all (changes d c (view judged w d c)) w).state.table a + gone_pages a t c ≡ pages_of t a + new_pages a c
  unfolding changes view late registration add_password
  done_figure (OnStore (Read x)) p = refl
  done_figure (OnStore (Write x v)) p = refl
  done_figure (OnStore (Execute x)) p = refl
  done_figure (OnStore (Lookup x r)) p = refl
  done_figure (OnObject (Create q n k u)) p = new_figure q n k u p.domain p.rest.1.1.1.0
  done_figure (OnObject (Delete b)) p = goes_figure b destroy p.rest.0
  done_figure (OnObject (AddPassword b k m)) p = kept_figure b owner _ p.rest.0 (record { pages = refl; account = refl })
  done_figure (OnObject (DropPassword b k)) p = kept_figure b owner _ p.rest.0 (drop_charge _ k)
  done_figure (OnObject (Register b k l es)) p = kept_figure b owner _ p.rest.0 (record { pages = refl; account = refl })
  done_figure (OnDomain (Insert i l)) p = refl
  done_figure (OnDomain (Remove i)) p = refl
  done_figure (OnDomain Get) p = refl
  done_figure (OnDomain (Lock i)) p = refl
  done_figure (OnDomain (PdxCall x ch)) p = refl
  done_figure (OnDomain PdxReturn) p = refl

-- EVERY CALL MOVES THE FIGURE BY WHAT IT IS GRANTED TO CREATE AND DELETE
pub step_figure : (a : ℕ) (w : World) (e : Event) → sound w.state ≡ true
    → pages_of (result_of w e).outcome.state.table a + cond (granted w e) (gone_pages a w.state.table e.call) 0
    ≡ pages_of w.state.table a + cond (granted w e) (new_pages a e.call) 0
step_figure a w e h = go (step_cases w e.domain e.call)
  where
    go : Refuses w (result_of w e) ⊎ ((sound w.state ≡ true) × Does w e.domain e.call (result_of w e))
        → pages_of (result_of w e).outcome.state.table a + cond (granted w e) (gone_pages a w.state.table e.call) 0
        ≡ pages_of w.state.table a + cond (granted w e) (new_pages a e.call) 0
    go (inl (why, r)) = rw (r, ne_eqb (refusal_number why) 0 (λ z. omega (arith, refusal_number_lem why))) refl
    go (inr (_, (p, r))) = rw r (done_figure a w e.domain h e.call p)

-- a call that passes creates no more than the limit leaves
passes_limit : (a : ℕ) (w : World) (d : ℕ) (c : Call) → Passes w d c → pages_of w.state.table a ≤ limit_at w.state.accounts a
    → pages_of w.state.table a + new_pages a c ≤ limit_at w.state.accounts a
unfolding view late
passes_limit a w d (OnObject (Create q n k u)) p l =
    cond_ind (λ m. pages_of w.state.table a + m ≤ limit_at w.state.accounts a) (eqb u a) n 0
    (λ e. let f : leb (pages_of w.state.table u + n) (limit_at w.state.accounts u) ≡ true = rw p.rest.1.0 at p.rest.1.1.0 in
    let g : pages_of w.state.table u + n ≤ limit_at w.state.accounts u = leb-true _ _ f in
    rw (eqb-true u a e) at g) (λ e. omega arith)
passes_limit a w d (OnStore c) p l = omega arith
passes_limit a w d (OnObject (Delete b)) p l = omega arith
passes_limit a w d (OnObject (AddPassword b k m)) p l = omega arith
passes_limit a w d (OnObject (DropPassword b k)) p l = omega arith
passes_limit a w d (OnObject (Register b k x es)) p l = omega arith
passes_limit a w d (OnDomain c) p l = omega arith

-- NO CALL TAKES A FIGURE ABOVE ITS LIMIT
pub step_limits : (w : World) (e : Event) → sound w.state ≡ true → WithinLimits w.state → WithinLimits (result_of w e).outcome.state
step_limits w e h l a m = rw (step_accounts w e.domain e.call) (go (step_cases w e.domain e.call))
  where
    go : Refuses w (result_of w e) ⊎ ((sound w.state ≡ true) × Does w e.domain e.call (result_of w e))
        → pages_of (result_of w e).outcome.state.table a ≤ limit_at w.state.accounts a
    go (inl (why, r)) = rw r (l a m)
    go (inr (_, (p, r))) =
        rw r (omega (arith, done_figure a w e.domain h e.call p, passes_limit a w e.domain e.call p (l a m)))
