-- An object more, less, or another keeps an estate sound, another estate keeps the state sound, and the empty state is sound.
use Rattle.std.specs.Prelude.{ℕ, ◌+◌, ◌-◌, ◌<◌, ◌≡◌, refl, Bool, true, ◌||◌, ltb}
use Rattle.std.proofs.Common.{ap, ⊎_elim, arith, length-set, ltb-true, ltb-false}
use Rattle.std.proofs.lemmas.List.{get_or-replicate}
use Rattle.bounded.specs.Bools.{or_left, unless, neither}
use Rattle.bounded.specs.Every.{below, set_at}
use Rattle.bounded.specs.Fill.{tabulate_at}
use Rattle.bounded.specs.Place.{PlaceFound, found_some}
use Rattle.bounded.specs.Shift.{in_cases, out_cases}
use Rattle.state.specs.Places.{no_object, no_estate, no_domain, free_object, empty_estate, empty_domain, no_accounts, empty_state, object_at}
use Rattle.state.specs.Extent.{free, apart}
use Rattle.state.specs.Lookup.{object_where, place_where, place_above, has_room}
use Rattle.state.specs.Update.{with_object, object_in, insert_object, object_out, remove_object, with_estate}
use Rattle.state.specs.Laws.Extent.{zero_not, not_zero, SameRun, apart_parts}
use Rattle.state.specs.Laws.Lookup.{Stands}
use Rattle.soundness.specs.Sound.{object_ok, follows, estate_ok, accounts_ok, sound}
use Rattle.soundness.specs.Laws.StateParts.{EstateSound, estate_parts, parts_estate, state_parts, parts_state}
use Rattle.soundness.specs.Laws.Order.{Before, parts_follows, follows_run, follows_through}
use Rattle.soundness.specs.Laws.ObjectParts.{free_sound}
use Rattle.soundness.specs.Laws.Domains.{empty_domain_lem}
use Rattle.state.specs.declared.Object.{Object}
use Rattle.state.specs.declared.Estate.{Estate}
use Rattle.state.specs.declared.State.{State}

-- AN OBJECT MORE, apart from all, where there is room
module _ (e : Estate) (d : ℕ) (o : Object) (p : object_ok o d ≡ true) (some : 0 < o.pages) (clear : (j : ℕ) → j < 8 → apart (object_at e j) o ≡ true)
    (room : has_room e ≡ true) (h : estate_ok e d ≡ true) where
  q : EstateSound e d
  q = estate_parts e d h

  abbrev higher : Object → Bool
  higher x = free x || ltb o.base x.base

  abbrev place : ℕ
  place = place_where higher e

  -- its place is one of the eight
  found : PlaceFound (λ k. higher (object_at e k)) 8
  unfolding has_room
  found = (found_some (λ k. higher (object_at e k)) 8 7 (omega arith) (or_left _ _ room)).0

  -- an object before that place ends before its base
  lower : (j : ℕ) → j < place → Before (object_at e j) o
  lower j l =
      let x : Object = object_at e j in
      let t = neither (free x) (ltb o.base x.base) (found.before j l) in
      let stands = not_zero _ t.0 in
      let b = ltb-false o.base x.base t.1 in
      ⊎_elim (λ ends. record { stands = stands; ends = ends }) (λ ends. absurd (omega arith)) (apart_parts x o (clear j (omega (arith, found.within))) stands some)

  -- it ends before the base of what stands at that place
  upper : follows o (object_at e place) ≡ true
  upper =
      parts_follows o _
      (λ s. let b = ltb-true o.base (object_at e place).base (unless (free (object_at e place)) _ found.passes (zero_not _ s)) in
      ⊎_elim (λ ends. absurd (omega arith)) (λ ends. record { stands = some; ends = ends }) (apart_parts (object_at e place) o (clear place found.within) s some))

  order : (k : ℕ) → k < 7 → follows (object_in e place o k) (object_in e place o (k + 1)) ≡ true
  order k l =
      in_cases (object_at e) place o (λ x. follows x (object_in e place o (k + 1)) ≡ true) k
      (λ a. in_cases (object_at e) place o (λ y. follows (object_at e k) y ≡ true) (k + 1) (λ b. q.order k l) (λ b. parts_follows _ o (λ s. lower k a))
      (λ b. absurd (omega arith)))
      (λ a. in_cases (object_at e) place o (λ y. follows o y ≡ true) (k + 1) (λ b. absurd (omega arith)) (λ b. absurd (omega arith))
      (λ b. let w : k + 1 - 1 ≡ place = omega arith in rw w upper))
      (λ a. in_cases (object_at e) place o (λ y. follows (object_at e (k - 1)) y ≡ true) (k + 1) (λ b. absurd (omega arith)) (λ b. absurd (omega arith))
      (λ b. let w : k + 1 - 1 ≡ k - 1 + 1 = omega arith in rw w (q.order (k - 1) (omega arith))))

  pub insert_sound : estate_ok (insert_object e o) d ≡ true
  unfolding insert_object place_above
  insert_sound =
      parts_estate _ d
      (record {
        long = refl;
        object = λ k l.
            rw (tabulate_at 8 (object_in e place o) k no_object l)
            (in_cases (object_at e) place o (λ x. object_ok x d ≡ true) k (λ a. q.object k l) (λ a. p) (λ a. q.object (k - 1) (omega arith)));
        order = λ k l.
            rw (tabulate_at 8 (object_in e place o) k no_object (omega arith), tabulate_at 8 (object_in e place o) (k + 1) no_object (omega arith)) (order k l);
      })

-- AN OBJECT LESS
pub remove_sound : (e : Estate) (d at : ℕ) → estate_ok e d ≡ true → estate_ok (remove_object e at) d ≡ true
unfolding remove_object
remove_sound e d at h =
    parts_estate _ d
    (record {
      long = refl;
      object = λ k l.
          rw (tabulate_at 8 (object_out e at) k no_object l)
          (out_cases (object_at e) 7 free_object at (λ x. object_ok x d ≡ true) k (λ a. q.object k l) (λ a b. q.object (k + 1) (omega arith)) (λ a b. free_sound d));
      order = λ k l.
          rw (tabulate_at 8 (object_out e at) k no_object (omega arith), tabulate_at 8 (object_out e at) (k + 1) no_object (omega arith)) (order k l);
    })
  where
    q : EstateSound e d
    q = estate_parts e d h

    none : (x : Object) → follows x free_object ≡ true
    none x = parts_follows x free_object (λ s. absurd (omega arith))

    order : (k : ℕ) → k < 7 → follows (object_out e at k) (object_out e at (k + 1)) ≡ true
    order k l =
        out_cases (object_at e) 7 free_object at (λ x. follows x (object_out e at (k + 1)) ≡ true) k
        (λ a. out_cases (object_at e) 7 free_object at (λ y. follows (object_at e k) y ≡ true) (k + 1) (λ b. q.order k l)
        (λ b c. follows_through _ _ _ (q.order k l) (q.order (k + 1) c)) (λ b c. none _))
        (λ a b. out_cases (object_at e) 7 free_object at (λ y. follows (object_at e (k + 1)) y ≡ true) (k + 1) (λ c. absurd (omega arith))
        (λ c f. q.order (k + 1) f) (λ c f. none _))
        (λ a b. absurd (omega arith))

-- ANOTHER OBJECT with the run of the one that stood at the place
pub object_run_sound : (e : Estate) (d k : ℕ) (o : Object) → k < 8 → SameRun o (object_at e k) → object_ok o d ≡ true → estate_ok e d ≡ true
    → estate_ok (with_object e k o) d ≡ true
object_run_sound e d k o l r p h =
    parts_estate _ d
    (record {
      long = simp length-set q.long;
      object = λ j m. set_at (λ _ x. object_ok x d ≡ true) e.objects k o no_object j (omega (arith, q.long)) (λ w. p) (λ ne. q.object j m);
      order = λ j m. follows_run _ _ _ _ (run j (omega arith)) (run (j + 1) (omega arith)) (q.order j m);
    })
  where
    q : EstateSound e d
    q = estate_parts e d h

    run : (j : ℕ) → j < 8 → SameRun (object_at (with_object e k o) j) (object_at e j)
    run j m =
        set_at (λ i x. SameRun x (object_at e i)) e.objects k o no_object j (omega (arith, q.long)) (λ w. r) (λ ne. record { base = refl; pages = refl })

-- an object with the run of the one that was found
pub found_run_sound : (test : Object → Bool) (e : Estate) (d : ℕ) (o : Object) → Stands test e → SameRun o (object_where test e) → object_ok o d ≡ true
    → estate_ok e d ≡ true → estate_ok (with_object e (place_where test e) o) d ≡ true
found_run_sound test e d o s r p h = object_run_sound e d (place_where test e) o s.within (rw s.there r) p h

-- another sound estate
pub with_estate_sound : (s : State) (d : ℕ) (e : Estate) → estate_ok e d ≡ true → sound s ≡ true → sound (with_estate s d e) ≡ true
with_estate_sound s d e p h =
    let q = state_parts s h in
    parts_state _
    (record {
      long_estates = simp length-set q.long_estates;
      long_domains = q.long_domains;
      estate = λ k l.
          set_at (λ j x. estate_ok x j ≡ true) s.table.estates d e no_estate k (omega arith) (λ w. p) (λ ne. q.estate k l);
      domain = q.domain;
      accounts = q.accounts;
    })

-- an estate with no object
pub empty_estate_lem : (d : ℕ) → estate_ok empty_estate d ≡ true
empty_estate_lem d =
    parts_estate empty_estate d
    (record {
      long = refl;
      object = λ k l. rw (get_or-replicate 8 k free_object no_object l) (free_sound d);
      order = λ k l. parts_follows _ _ (λ s. absurd (omega (arith, s, ap (λ x. x.pages) (get_or-replicate 8 (k + 1) free_object no_object (omega arith)))));
    })

-- limits of 0 and empty sets
no_accounts_lem : accounts_ok no_accounts ≡ true
unfolding accounts_ok below
no_accounts_lem = refl

-- the empty state
pub empty_sound : sound empty_state ≡ true
empty_sound =
    parts_state empty_state
    (record {
      long_estates = refl;
      long_domains = refl;
      estate = λ d l. rw (get_or-replicate 4 d empty_estate no_estate l) (empty_estate_lem d);
      domain = λ d l. rw (get_or-replicate 4 d empty_domain no_domain l) empty_domain_lem;
      accounts = no_accounts_lem;
    })
