-- The changes of a done call are fit: what each puts in is sound, and lies in the store.
use Rattle.std.specs.Prelude.{ℕ, ◌+◌, ◌*◌, ◌/◌, ◌<◌, ◌≤◌, ◌≡◌, refl, true, false, not, cond, ◌&&◌, ◌||◌, List, [], ◌∷◌, leb, ltb, eqb, Option}
use Rattle.std.proofs.Common.{arith, leb-true, ltb-true, lt-ltb, le-ltb, ne_eqb}
use Rattle.std.proofs.lemmas.Bool.{not-true}
use Rattle.bounded.specs.Bools.{and_left, and_right, guarded, unless, cond_ind}
use Rattle.bounded.specs.Every.{below_at}
use Rattle.bounded.specs.Fill.{tabulate_at}
use Rattle.rights.specs.Modes.{destroy, pdx, owner}
use Rattle.state.specs.Places.{object_at, estate_at, domain_at}
use Rattle.state.specs.Extent.{covers, apart, lies_in}
use Rattle.state.specs.Lookup.{has_base, based, place_based, object_based, object_covering, has_room, has_password}
use Rattle.state.specs.Update.{new_object, with_object, insert_object, with_registration, merge_list, only_list}
use Rattle.state.specs.Laws.Extent.{not_zero, SameRun, add_run, register_run, drop_run}
use Rattle.soundness.specs.Sound.{object_ok, estate_ok, frame_ok, domain_ok, sound}
use Rattle.soundness.specs.Laws.Frames.{insert_sound as insert-slot-sound, remove_sound as remove-slot-sound, lock_sound, merge_sound, only_sound}
use Rattle.soundness.specs.Laws.Domains.{active_sound, save_sound, restore_sound}
use Rattle.soundness.specs.Laws.Objects.{new_sound, add_sound, register_sound, drop_sound}
use Rattle.soundness.specs.Laws.Estates.{insert_sound, remove_sound, found_run_sound}
use Rattle.soundness.specs.Laws.ObjectParts.{ObjectBounds, RegistrationSound, registration_parts}
use Rattle.soundness.specs.Laws.DomainParts.{domain_parts}
use Rattle.soundness.specs.Laws.StateParts.{state_parts}
use Rattle.soundness.specs.Laws.Found.{stands_sound, FoundSound, based_sound, covering_answered}
use Rattle.state.specs.declared.Capability.{Capability}
use Rattle.state.specs.declared.Object.{Object}
use Rattle.state.specs.declared.Estate.{Estate}
use Rattle.state.specs.declared.Frame.{Frame}
use Rattle.judge.specs.Judged.{judged}
use Rattle.judge.specs.declared.Target.TheVariants.{Address, Base}
use Rattle.calls.specs.View.{rights, World, Found, search, is_some, object_of, estate_found}
use Rattle.calls.specs.Arguments.{entry_of, entries_all, run_free}
use Rattle.calls.specs.Changes.{Change, word, zeros, estate, domain, capability, registration, entered}
use Rattle.calls.specs.Rules.{in_range, unlocked, view, late, changes}
use Rattle.calls.specs.Laws.Passed.{Passes}
use Rattle.calls.specs.Laws.Searched.{was_granted, called_registered}
use Rattle.calls.specs.declared.Call.{Call}
use Rattle.calls.specs.declared.Call.TheVariants.{OnStore, OnObject, OnDomain}
use Rattle.calls.specs.declared.Access.TheVariants.{Read, Write, Execute, Lookup}
use Rattle.calls.specs.declared.ObjectCall.TheVariants.{Create, Delete, AddPassword, DropPassword, Register}
use Rattle.calls.specs.declared.DomainCall.TheVariants.{Insert, Remove, Get, Lock, PdxCall, PdxReturn}
use Rattle.calls.specs.declared.Presented.{Presented}
use Rattle.calls.specs.declared.Entries.{Entries}

-- a change that puts a sound estate or domain in its place, or writes in the store
abbrev pub Fit : Change → Type 0
Fit (word a x) = Unit {0}
Fit (zeros a n) = a + n ≤ 8192
Fit (estate e x) = estate_ok x e ≡ true
Fit (domain d m) = domain_ok m ≡ true

abbrev pub AllFit : List Change → Type 0
AllFit [] = Unit {0}
AllFit (c ∷ cs) = Fit c × AllFit cs

-- the object with the base, found by a search for rights on it
abbrev pub owned : World → Frame → ℕ → ℕ → Option Found
owned w f b r = search judged w f (rights (Base b) r)

module _ (w : World) (f : Frame) (b r : ℕ) (h : sound w.state ≡ true) (s : is_some (owned w f b r) ≡ true) where
  pub found : FoundSound (has_base b) w.state b
  found = based_sound w.state b h (was_granted w f (Base b) r s).pages

  owned_estate : estate_ok (estate_found (owned w f b r)) (b / 32) ≡ true
  owned_estate = rw (was_granted w f (Base b) r s).judgement found.sound_estate

  owned_sound : object_ok (object_of (owned w f b r)) (b / 32) ≡ true
  unfolding object_based based
  owned_sound = rw (was_granted w f (Base b) r s).judgement (stands_sound (has_base b) _ (b / 32) found.stands found.sound_estate)

  owned_pages : 0 < (object_of (owned w f b r)).pages
  owned_pages = rw (was_granted w f (Base b) r s).judgement (was_granted w f (Base b) r s).pages

  -- another object with its run, in its place
  pub owned_becomes : (o : Object) → SameRun o (object_of (owned w f b r)) → object_ok o (b / 32) ≡ true
      → estate_ok (with_object (estate_found (owned w f b r)) (place_based (estate_found (owned w f b r)) b) o) (b / 32) ≡ true
  unfolding object_based based place_based
  owned_becomes o = rw (was_granted w f (Base b) r s).judgement (λ m p. found_run_sound (has_base b) _ (b / 32) o found.stands m p found.sound_estate)

-- CR is asked for some page, a password that is not 0, and an account
pub record CreateRange (n k a : ℕ) : Type 0 where
  pub pages : 0 < n
  pub word : 0 < k
  pub account : a < 4

pub create_range : (p n k a : ℕ) → in_range (OnObject (Create p n k a)) ≡ true → CreateRange n k a
unfolding in_range
create_range p n k a r =
    let first = and_left _ (ltb a 4) r in
    record {
      pages = ltb-true 0 n (and_right (ltb p 128) _ (and_left (ltb p 128 && ltb 0 n) _ (and_left _ _ first)));
      word = not_zero k (not-true _ (and_right (ltb p 128 && ltb 0 n && leb n 32) _ first));
      account = ltb-true a 4 (and_right (ltb p 128 && ltb 0 n && leb n 32 && not (eqb k 0)) _ r);
    }

-- a new object that lies in the estate and meets no other, where there is room
new_fit : (e : Estate) (d p n k a : ℕ) → in_range (OnObject (Create p n k a)) ≡ true → estate_ok e d ≡ true
    → lies_in (new_object p n k a) d && run_free e (new_object p n k a) ≡ true → has_room e ≡ true
    → (estate_ok (insert_object e (new_object p n k a)) d ≡ true) × (p + n ≤ 32 * d + 32)
unfolding lies_in run_free new_object in_range
new_fit e d p n k a range h t room =
    let o = new_object p n k a in
    let lies = and_left (lies_in o d) _ t in
    let to = leb-true _ _ (and_right (leb (32 * d) p) _ lies) in
    let clear = below_at 8 (λ j. apart (object_at e j) o) (and_right (lies_in o d) _ t) in
    let r = create_range p n k a range in
    (insert_sound e d o (new_sound p n k a d r.pages r.word r.account (leb-true _ _ (and_left _ _ lies)) to) r.pages clear room h, to)

-- a registration as it is asked for, with its entries inside the object
registered_sound : (o : Object) (k : ℕ) (l : Presented) (es : Entries) → l.page < 128 → 0 < es.count → es.count ≤ 4
    → entries_all (λ a. covers o (a / 64)) es ≡ true → RegistrationSound (with_registration o (registration k l es))
unfolding registration covers
registered_sound o k l es p some few inside =
    record {
      list = p;
      some = some;
      few = few;
      entry = λ i m.
          rw (tabulate_at 4 (λ j. cond (ltb j es.count) (entry_of es j) 0) i 0 (omega arith), lt-ltb i es.count m)
          (guarded es.count i _ (below_at 4 (λ j. leb es.count j || covers o (entry_of es j / 64)) inside i (omega arith)) m);
      past = λ i m n. rw (tabulate_at 4 (λ j. cond (ltb j es.count) (entry_of es j) 0) i 0 m, le-ltb i es.count n);
    }

registered_fit : (o : Object) (d b k : ℕ) (l : Presented) (es : Entries) → in_range (OnObject (Register b k l es)) ≡ true
    → entries_all (λ a. covers o (a / 64)) es ≡ true → not (has_password o k) ≡ true → 0 < o.pages → object_ok o d ≡ true
    → object_ok (with_registration o (registration k l es)) d ≡ true
unfolding in_range registration
registered_fit o d b k l es range inside new stands h =
    let first = and_left _ (entries_all (λ a. ltb a 8192) es) range in
    let few = and_right (ltb b 128 && not (eqb k 0) && ltb l.page 128 && ltb 0 es.count) _ first in
    let third = and_left _ (leb es.count 4) first in
    let some = and_right (ltb b 128 && not (eqb k 0) && ltb l.page 128) _ third in
    let page = and_right (ltb b 128 && not (eqb k 0)) _ (and_left _ (ltb 0 es.count) third) in
    let word = not_zero k (not-true _ (and_right (ltb b 128) _ (and_left _ (ltb l.page 128) (and_left _ (ltb 0 es.count) third)))) in
    register_sound o d _ refl word (not-true _ new)
    (registered_sound o k l es (ltb-true _ 128 page) (ltb-true 0 _ some) (leb-true _ 4 few) inside) stands h

-- the list of a registration that P is granted on names a page
entered_list : (w : World) (f : Frame) (a : ℕ) → sound w.state ≡ true → is_some (search judged w f (rights (Address a) pdx)) ≡ true
    → (object_of (search judged w f (rights (Address a) pdx))).registration.list.page < 128
entered_list w f a h s =
    let g = was_granted w f (Address a) pdx s in
    let o = object_covering w.state.table (a / 64) in
    let b : ObjectBounds o (a / 64 / 32) = (covering_answered w.state (a / 64) h).bounds g.pages in
    rw g.judgement (registration_parts o b.registration (called_registered w f a g.pair h g.judgement)).list

-- the frame that a PDX call runs in
entered_sound : (ch : ℕ) (f : Frame) (c : Capability) → c.page < 128 → frame_ok false f ≡ true → frame_ok false (entered ch f c) ≡ true
entered_sound ch f c p h =
    cond_ind (λ x. frame_ok false x ≡ true) (eqb ch 0) (merge_list f c) (only_list c) (λ e. merge_sound f c p h) (λ e. only_sound c p)

-- THE CHANGES OF A DONE CALL ARE FIT
pub done_fit : (w : World) (d : ℕ) (c : Call) → sound w.state ≡ true → Passes w d c → AllFit (changes d c (view judged w d c))
unfolding changes view late in_range unlocked
done_fit w d (OnStore (Read a)) h p = tt
done_fit w d (OnStore (Write a x)) h p = (tt, tt)
done_fit w d (OnStore (Execute a)) h p = tt
done_fit w d (OnStore (Lookup a r)) h p = tt
done_fit w d (OnObject (Create a n k x)) h p =
    let r = new_fit (estate_at w.state.table d) d a n k x p.range ((state_parts w.state h).estate d p.domain) p.rest.0 p.rest.1.1.1.0 in
    (r.0, (omega (arith, p.domain, r.1), tt))
done_fit w d (OnObject (Delete b)) h p = (remove_sound _ (b / 32) _ (owned_estate w (domain_at w.state d).active b destroy h p.rest.0), tt)
done_fit w d (OnObject (AddPassword b k m)) h p =
    let f = (domain_at w.state d).active in
    let o = object_of (owned w f b owner) in
    let legal = and_right (ltb b 128 && not (eqb k 0)) _ p.range in
    let word = not_zero k (not-true _ (and_right (ltb b 128) _ (and_left _ _ p.range))) in (
      owned_becomes w f b owner h p.rest.0 _ (add_run o k m)
          (add_sound o (b / 32) k m word (not-true _ p.rest.1.0) legal (owned_pages w f b owner h p.rest.0) (owned_sound w f b owner h p.rest.0)),
      tt,
    )
done_fit w d (OnObject (DropPassword b k)) h p =
    let f = (domain_at w.state d).active in
    let o = object_of (owned w f b owner) in
    (owned_becomes w f b owner h p.rest.0 _ (drop_run o k) (drop_sound o (b / 32) k (owned_pages w f b owner h p.rest.0) (owned_sound w f b owner h p.rest.0)), tt)
done_fit w d (OnObject (Register b k l es)) h p =
    let f = (domain_at w.state d).active in
    let o = object_of (owned w f b owner) in (
      owned_becomes w f b owner h p.rest.0 _ (register_run o (registration k l es))
          (registered_fit o (b / 32) b k l es p.range p.rest.1.1.0 p.rest.1.1.1.0 (owned_pages w f b owner h p.rest.0) (owned_sound w f b owner h p.rest.0)),
      tt,
    )
done_fit w d (OnDomain (Insert i l)) h p =
    let m = domain_at w.state d in
    let ok = (state_parts w.state h).domain d p.domain in
    let page = ltb-true _ 128 (and_right (ltb i 8) _ p.range) in
    (active_sound m _ (insert-slot-sound m.active i (capability l) (leb-true i _ p.rest.1.1.0) page (domain_parts m ok).active) ok, tt)
done_fit w d (OnDomain (Remove i)) h p =
    let m = domain_at w.state d in
    let ok = (state_parts w.state h).domain d p.domain in
    (active_sound m _ (remove-slot-sound m.active i (leb-true _ i (and_left _ _ p.unlocks)) (domain_parts m ok).active) ok, tt)
done_fit w d (OnDomain Get) h p = tt
done_fit w d (OnDomain (Lock i)) h p =
    let m = domain_at w.state d in
    let ok = (state_parts w.state h).domain d p.domain in (
      active_sound m _
          (lock_sound m.active i (λ ne. ltb-true i _ (unless (eqb i 255) _ p.rest.0 (ne_eqb i 255 ne))) (domain_parts m ok).active) ok,
      tt,
    )
done_fit w d (OnDomain (PdxCall a ch)) h p =
    let m = domain_at w.state d in
    let ok = (state_parts w.state h).domain d p.domain in
    let page = entered_list w m.active a h p.rest.0 in
    (save_sound m _ (entered_sound ch m.active _ page (domain_parts m ok).active) ok, tt)
done_fit w d (OnDomain PdxReturn) h p = (restore_sound _ ((state_parts w.state h).domain d p.domain), tt)
