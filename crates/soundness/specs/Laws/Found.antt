-- What a lookup by page finds in the object table of a sound state.
use Rattle.std.specs.Prelude.{ℕ, ◌+◌, ◌/◌, ◌<◌, ◌≤◌, ◌≡◌, refl, Bool, true, false, not, ◌⊎◌, leb, ltb}
use Rattle.std.proofs.Math.Path.{ap}
use Rattle.std.proofs.Common.{sym, ◌∙◌, true≢false, inl, inr, arith}
use Rattle.std.proofs.Math.Bool.{cond}
use Rattle.std.proofs.Math.Logic.{⊎_elim}
use Rattle.std.proofs.Math.ListN.{get_or-eq_default}
use borrow.Author.Tests.{leb-true, le-leb, ltb-true, ltb-false, lt-ltb, le-ltb, eq-eqb}
use Rattle.bounded.specs.Bools.{flag, and_both, cond_ind, same_or_not}
use Rattle.bounded.specs.Search.{first_at}
use Rattle.state.specs.Places.{no_estate, free_object, object_at, estate_at, estate_of}
use Rattle.state.specs.Extent.{covers}
use Rattle.state.specs.Lookup.{has_base, ends_behind, object_where, place_where, covering, based, object_covering, object_based}
use Rattle.state.specs.Laws.Extent.{zero_not, covers_parts, parts_covers}
use Rattle.state.specs.Laws.Lookup.{Stands, place_stands, none_stands, none_found, place_bound, pages_stands, some_stands, found_or_free, none_answered, where_none, covering_none, Single, covers_standing, base_standing, base_single}
use Rattle.soundness.specs.Sound.{object_ok, estate_ok, sound}
use Rattle.soundness.specs.Laws.ObjectParts.{ObjectBounds, object_parts}
use Rattle.soundness.specs.Laws.StateParts.{estate_parts, state_parts}
use Rattle.soundness.specs.Laws.Order.{estate_before, estate_apart}
use Rattle.state.specs.declared.Object.{Object}
use Rattle.state.specs.declared.Estate.{Estate}
use Rattle.state.specs.declared.State.{State}

-- the object found in a sound estate is sound
pub stands_sound : (test : Object → Bool) (e : Estate) (d : ℕ) → Stands test e → estate_ok e d ≡ true → object_ok (object_where test e) d ≡ true
stands_sound test e d s h = rw s.there at ((estate_parts e d h).object (place_where test e) s.within)

module _ (test : Object → Bool) (single : Single test) (e : Estate) (d k : ℕ) (ok : estate_ok e d ≡ true) (l : k < 8)
    (h : test (object_at e k) ≡ true) where
  -- in a sound estate the place of the object that passes such a test is the one found
  pub only_place : place_where test e ≡ k
  only_place = go (same_or_not (place_where test e) k)
    where
      s : Stands test e
      s = some_stands test e k l h

      go : (place_where test e ≡ k) ⊎ (place_where test e ≡ k → ⊥) → place_where test e ≡ k
      go (inl w) = w
      go (inr ne) = absurd (single _ _ (rw s.there s.passes) h (estate_apart e d ok (place_where test e) k s.within l ne))

  -- and so is the object
  pub only_object : object_where test e ≡ object_at e k
  only_object = sym (some_stands test e k l h).there ∙ rw only_place

module _ (e : Estate) (d page : ℕ) (ok : estate_ok e d ≡ true) where
  abbrev has : Object → Bool
  has o = covers o page

  abbrev behind : Object
  behind = object_where (ends_behind page) e

  -- IN A SOUND ESTATE the first object that ends behind a page has it, or no object has
  pub estate_covering : covering e page ≡ object_where (λ o. covers o page) e
  unfolding covering
  estate_covering = go (same_or_not (place_where has e) 8)
    where
      go : (place_where has e ≡ 8) ⊎ (place_where has e ≡ 8 → ⊥) → cond (leb behind.base page) behind free_object ≡ object_where has e
      go (inl z) =
          rw (none_found has e z)
          (cond_ind (λ x. x ≡ free_object) (leb behind.base page) behind free_object
          (λ b. ⊎_elim
          (λ s. let c = parts_covers behind page (leb-true _ _ b) (ltb-true _ _ s.passes) in
          absurd (true≢false (sym c ∙ rw s.there at (none_stands has e z _ s.within))))
          (λ f. f) (found_or_free (ends_behind page) e))
          (λ b. refl))
      go (inr ne) =
          let s = place_stands has e (omega (arith, place_bound has e)) in
          let c = covers_parts _ page s.passes in
          let p : 0 < (object_at e (place_where has e)).pages = rw s.there (covers_standing page _ s.passes) in
          let w : behind ≡ object_where has e =
          first_at (λ k. ends_behind page (object_at e k)) (object_at e) free_object 0 8 (object_where has e)
          (record {
            place = place_where has e;
            from = omega arith;
            below = s.within;
            there = s.there;
            holds = rw s.there (lt-ltb _ _ c.1);
            before = λ j a l.
                let b = (estate_before e d ok j (place_where has e) l s.within p).ends in
                le-ltb page ((object_at e j).base + (object_at e j).pages) (omega (arith, ap (λ o. o.base) s.there));
          }) in
          rw (w, le-leb _ _ c.0)

-- an object that a lookup by page finds in a sound state: it stands in the page's estate, and keeps its bounds
pub record FoundSound (test : Object → Bool) (s : State) (page : ℕ) : Type 0 where
  pub estate : page / 32 < 4
  pub sound_estate : estate_ok (estate_of s.table page) (page / 32) ≡ true
  pub stands : Stands test (estate_of s.table page)
  pub bounds : ObjectBounds (object_where test (estate_of s.table page)) (page / 32)

-- there are no estates past the fourth
no_estate_lem : (s : State) (page : ℕ) → sound s ≡ true → 4 ≤ page / 32 → estate_of s.table page ≡ no_estate
no_estate_lem s page h l = get_or-eq_default s.table.estates no_estate (omega (arith, (state_parts s h).long_estates))

-- an object found with pages is such a one
pub found_sound : (test : Object → Bool) (s : State) (page : ℕ) → sound s ≡ true → 0 < (object_where test (estate_of s.table page)).pages
    → FoundSound test s page
found_sound test s page h p = go (flag (ltb (page / 32) 4))
  where
    f : Stands test (estate_of s.table page)
    f = pages_stands test (estate_of s.table page) p

    go : (ltb (page / 32) 4 ≡ true) ⊎ (ltb (page / 32) 4 ≡ false) → FoundSound test s page
    go (inl l) =
        let small = ltb-true (page / 32) 4 l in
        let ok = (state_parts s h).estate (page / 32) small in
        record {
          estate = small;
          sound_estate = ok;
          stands = f;
          bounds = (object_parts _ (page / 32) (stands_sound test (estate_of s.table page) (page / 32) f ok)).bounds p;
        }
    go (inr l) =
        let z : (object_at (estate_of s.table page) (place_where test (estate_of s.table page))).pages ≡ 0 =
        ap (λ x. (object_at x (place_where test (estate_of s.table page))).pages) (no_estate_lem s page h (ltb-false (page / 32) 4 l)) in
        absurd (omega (arith, ap (λ o. o.pages) f.there))

-- so in a sound state a lookup by a page answers the object that has it
pub state_covering : (s : State) (page : ℕ) → sound s ≡ true → object_covering s.table page ≡ object_where (λ o. covers o page) (estate_of s.table page)
unfolding object_covering covers
state_covering s page h = go (flag (ltb (page / 32) 4))
  where
    go : (ltb (page / 32) 4 ≡ true) ⊎ (ltb (page / 32) 4 ≡ false)
        → covering (estate_of s.table page) page ≡ object_where (λ o. covers o page) (estate_of s.table page)
    go (inl l) = estate_covering (estate_of s.table page) (page / 32) page ((state_parts s h).estate (page / 32) (ltb-true (page / 32) 4 l))
    go (inr l) =
        rw (no_estate_lem s page h (ltb-false (page / 32) 4 l))
        (covering_none page ∙ sym (where_none (λ o. covers o page) (rw (le-leb 0 page (omega arith), le-ltb page 0 (omega arith)))))

-- the object that has a page is such a one
pub covering_sound : (s : State) (page : ℕ) → sound s ≡ true → 0 < (object_covering s.table page).pages → FoundSound (λ o. covers o page) s page
covering_sound s page h p = found_sound (λ o. covers o page) s page h (rw (state_covering s page h) at p)

-- and that with a base
pub based_sound : (s : State) (page : ℕ) → sound s ≡ true → 0 < (object_based s.table page).pages → FoundSound (has_base page) s page
unfolding object_based based
based_sound s page h p = found_sound (has_base page) s page h p

-- what a lookup in a sound state answers: an object that keeps its bounds, or a free one
pub record Answered (o : Object) (d : ℕ) : Type 0 where
  pub bounds : 0 < o.pages → ObjectBounds o d
  pub none : o.pages ≡ 0 → o ≡ free_object

-- so is answered a lookup by a page that the object has
pub covering_answered : (s : State) (page : ℕ) → sound s ≡ true → Answered (object_covering s.table page) (page / 32)
covering_answered s page h =
    rw (state_covering s page h)
    (record { bounds = λ p. (found_sound (λ o. covers o page) s page h p).bounds; none = none_answered _ (covers_standing page) (estate_of s.table page) })

-- and one by its base
pub based_answered : (s : State) (page : ℕ) → sound s ≡ true → Answered (object_based s.table page) (page / 32)
unfolding object_based based
based_answered s page h = record { bounds = λ p. (based_sound s page h p).bounds; none = none_answered _ (base_standing page) (estate_of s.table page) }

-- what one lookup finds another finds too, in the same estate, where no two objects that are apart pass its test
found_again : (test other : Object → Bool) (s : State) (page next : ℕ) → Single other → FoundSound test s page → next / 32 ≡ page / 32
    → other (object_where test (estate_of s.table page)) ≡ true
    → object_where other (estate_of s.table next) ≡ object_where test (estate_of s.table page)
found_again test other s page next single f e h =
    ap (λ d. object_where other (estate_at s.table d)) e
    ∙ only_object other single (estate_of s.table page) (page / 32) (place_where test (estate_of s.table page)) f.sound_estate
    f.stands.within (rw f.stands.there h)
    ∙ f.stands.there

-- in a sound state the object that has a page is the one with its base
pub covering_based : (s : State) (page : ℕ) → sound s ≡ true → 0 < (object_covering s.table page).pages
    → object_based s.table (object_covering s.table page).base ≡ object_covering s.table page
unfolding object_based based
covering_based s page h p =
    let f = covering_sound s page h p in
    let o = object_where (λ o. covers o page) (estate_of s.table page) in
    let q : 0 < o.pages = rw (state_covering s page h) at p in
    rw (state_covering s page h)
    (found_again (λ o. covers o page) (has_base o.base) s page o.base (base_single _) f (omega (arith, f.bounds.from, f.bounds.to))
    (and_both (ap not (zero_not _ q)) (eq-eqb o.base _ refl)))

-- the object with a base keeps its bounds, where it stands
pub based_ok : (s : State) (base : ℕ) → sound s ≡ true → 0 < (object_based s.table base).pages → object_ok (object_based s.table base) (base / 32) ≡ true
unfolding object_based based
based_ok s base h p =
    let f = based_sound s base h p in
    stands_sound (has_base base) (estate_of s.table base) (base / 32) f.stands f.sound_estate
