-- ONE STATE IS ONE VALUE: document 02, T-06. Two sound states with the same objects have the same object table.
use Rattle.std.specs.Prelude.{ℕ, suc, ◌/◌, ◌<◌, ◌≤◌, ◌≡◌, refl, true, false, not, List, ◌⊎◌, ltb, length, get_or, take}
use Rattle.std.proofs.Common.{ap, sym, ◌∙◌, inl, inr, ⊎_elim, arith, add-one, length-take, get_or-take, ltb-true, ltb-false, eq-eqb}
use Rattle.bounded.specs.Bools.{flag, and_both, same_or_not}
use Rattle.bounded.specs.Fill.{by_places}
use Rattle.state.specs.Places.{no_password, no_object, no_estate, password_at, object_at, estate_at}
use Rattle.state.specs.Lookup.{has_base, place_where, based, object_based, free_password_place}
use Rattle.state.specs.Laws.Extent.{zero_not}
use Rattle.state.specs.Laws.Lookup.{base_single, pages_stands}
use Rattle.state.specs.Laws.Passwords.{ordinary_place, place_of_bound}
use Rattle.soundness.specs.Sound.{object_ok, estate_ok, sound}
use Rattle.soundness.specs.Laws.ObjectParts.{ObjectSound, object_parts, vacant_password}
use Rattle.soundness.specs.Laws.StateParts.{estate_parts, StateSound, state_parts}
use Rattle.soundness.specs.Laws.Order.{Before, estate_before}
use Rattle.soundness.specs.Laws.Found.{only_object, based_answered, based_ok}
use Rattle.state.specs.declared.Password.{Password}
use Rattle.state.specs.declared.Object.{Object}
use Rattle.state.specs.declared.Estate.{Estate}
use Rattle.state.specs.declared.Table.{Table}
use Rattle.state.specs.declared.State.{State}

-- the ordinary passwords of an object, oldest first
abbrev pub passwords_of : Object → List Password
passwords_of o = take (free_password_place o) o.passwords

-- the same object: base, page count, account, passwords in order of age, registration
pub record SameObject (o o' : Object) : Type 0 where
  pub base : o.base ≡ o'.base
  pub pages : o.pages ≡ o'.pages
  pub account : o.account ≡ o'.account
  pub passwords : passwords_of o ≡ passwords_of o'
  pub registration : o.registration ≡ o'.registration

-- behind the last password of a standing object all places are free
past_last : (o : Object) (d : ℕ) → object_ok o d ≡ true → 0 < o.pages → (k : ℕ) → k < 4 → free_password_place o ≤ k → (password_at o k).word ≡ 0
past_last o d h p ℕ.zero l m = let e : free_password_place o ≡ 0 = omega arith in rw e at (ordinary_place o 0 (omega arith)).there
past_last o d h p (suc k) l m =
    ⊎_elim (λ e. rw e at (ordinary_place o 0 (omega arith)).there)
    (λ ne. rw (add-one k) at (((object_parts o d h).bounds p).next k (omega arith) (past_last o d h p k (omega arith) (omega arith))))
    (same_or_not (free_password_place o) (suc k))

-- the passwords of two standing objects with the same passwords in order of age stand at the same places
same_passwords : (o o' : Object) (d : ℕ) → object_ok o d ≡ true → object_ok o' d ≡ true → 0 < o.pages → 0 < o'.pages → passwords_of o ≡ passwords_of o'
    → o.passwords ≡ o'.passwords
same_passwords o o' d h h' p p' same = by_places 4 o.passwords o'.passwords no_password q.passwords q'.passwords (λ k l. go k l (flag (ltb k n)))
  where
    q : ObjectSound o d
    q = object_parts o d h

    q' : ObjectSound o' d
    q' = object_parts o' d h'

    n : ℕ
    n = free_password_place o

    count : n ≡ free_password_place o'
    count =
        omega (
          arith,
          place_of_bound o 0,
          place_of_bound o' 0,
          q.passwords,
          q'.passwords,
          length-take n o.passwords,
          length-take (free_password_place o') o'.passwords,
          ap length same,
        )

    go : (k : ℕ) → k < 4 → (ltb k n ≡ true) ⊎ (ltb k n ≡ false) → password_at o k ≡ password_at o' k
    go k l (inl e) =
        let m = ltb-true k n e in
        sym (get_or-take n o.passwords k no_password m) ∙ ap (λ t. get_or t k no_password) same
        ∙ get_or-take (free_password_place o') o'.passwords k no_password (omega (arith, count))
    go k l (inr e) =
        let m = ltb-false k n e in
        vacant_password o d h k l (past_last o d h p k l m)
        ∙ sym (vacant_password o' d h' k l (past_last o' d h' p' k l (omega (arith, count))))

-- the same object is one value
pub same_object : (o o' : Object) (d : ℕ) → object_ok o d ≡ true → object_ok o' d ≡ true → SameObject o o' → o ≡ o'
same_object o o' d h h' m = ⊎_elim (λ z. (object_parts o d h).none z ∙ sym ((object_parts o' d h').none (sym m.pages ∙ z))) standing (same_or_not o.pages 0)
  where
    standing : (o.pages ≡ 0 → ⊥) → o ≡ o'
    standing ne =
        let e = same_passwords o o' d h h' (omega arith) (omega (arith, m.pages)) m.passwords in
        ap (λ x. record { base = x; pages = o.pages; passwords = o.passwords; registration = o.registration; account = o.account }) m.base
        ∙ ap (λ x. record { base = o'.base; pages = x; passwords = o.passwords; registration = o.registration; account = o.account }) m.pages
        ∙ ap (λ x. record { base = o'.base; pages = o'.pages; passwords = x; registration = o.registration; account = o.account }) e
        ∙ ap (λ x. record { base = o'.base; pages = o'.pages; passwords = o'.passwords; registration = x; account = o.account }) m.registration
        ∙ ap (λ x. record { base = o'.base; pages = o'.pages; passwords = o'.passwords; registration = o'.registration; account = x }) m.account

-- each object of one estate stands in another
abbrev Has : Estate → Estate → Type 0
Has e e' = (k : ℕ) → k < 8 → 0 < (object_at e k).pages → (j : ℕ) × (j < 8) × (object_at e' j ≡ object_at e k)

module _ (d : ℕ) (e e' : Estate) (h : estate_ok e d ≡ true) (h' : estate_ok e' d ≡ true) (has : Has e e') (has' : Has e' e) (n : ℕ) (l : n < 8)
    (ih : (k : ℕ) → k < n → object_at e k ≡ object_at e' k) where
  -- of two sound estates with the same objects, and the same up to a place: where an object stands at it, the other has that one there
  meets : 0 < (object_at e n).pages → object_at e n ≡ object_at e' n
  meets p = let (j, m, w) = has n l p in go j m w (flag (ltb j n)) (same_or_not j n)
    where
      -- in the other the object stands further on: then one with a lower base stands here, and that one nowhere in the first
      beyond : (j : ℕ) → j < 8 → object_at e' j ≡ object_at e n → n < j → object_at e n ≡ object_at e' n
      beyond j m w b = let (i, a, v) = has' n l lower.stands in at i a v (flag (ltb i n)) (same_or_not i n)
        where
          lower : Before (object_at e' n) (object_at e' j)
          lower = estate_before e' d h' n j b m (rw w p)

          at : (i : ℕ) → i < 8 → object_at e i ≡ object_at e' n → (ltb i n ≡ true) ⊎ (ltb i n ≡ false) → (i ≡ n) ⊎ (i ≡ n → ⊥) → object_at e n ≡ object_at e' n
          at i a v x (inl s) = rw s at v
          at i a v (inl x) (inr s) =
              let y = ltb-true i n x in
              let u = estate_before e' d h' i n y l lower.stands in
              absurd (omega (arith, u.ends, u.stands, ap (λ o. o.base) (sym (ih i y) ∙ v)))
          at i a v (inr x) (inr s) =
              let u = estate_before e d h n i (omega (arith, ltb-false i n x)) a (rw v lower.stands) in
              absurd (omega (arith, u.ends, lower.ends, lower.stands, u.stands, ap (λ o. o.base) v, ap (λ o. o.base) w))

      go : (j : ℕ) → j < 8 → object_at e' j ≡ object_at e n → (ltb j n ≡ true) ⊎ (ltb j n ≡ false) → (j ≡ n) ⊎ (j ≡ n → ⊥) → object_at e n ≡ object_at e' n
      go j m w x (inl s) = sym (rw s at w)
      go j m w (inl x) (inr s) =
          let y = ltb-true j n x in
          let u = estate_before e d h j n y l p in
          absurd (omega (arith, u.ends, u.stands, ap (λ o. o.base) (ih j y ∙ w)))
      go j m w (inr x) (inr s) = beyond j m w (omega (arith, ltb-false j n x))

-- two sound estates with the same objects are equal, place by place
places_same : (d : ℕ) (e e' : Estate) → estate_ok e d ≡ true → estate_ok e' d ≡ true → Has e e' → Has e' e → (n : ℕ) → n ≤ 8 → (k : ℕ) → k < n
    → object_at e k ≡ object_at e' k
places_same d e e' h h' has has' ℕ.zero l k m = absurd (omega arith)
places_same d e e' h h' has has' (suc n) l k m =
    ⊎_elim (λ s. rw s (here (places_same d e e' h h' has has' n (omega arith)))) (λ ne. places_same d e e' h h' has has' n (omega arith) k (omega arith)) (same_or_not k n)
  where
    here : ((k : ℕ) → k < n → object_at e k ≡ object_at e' k) → object_at e n ≡ object_at e' n
    here ih =
        ⊎_elim
        (λ z. ⊎_elim
        (λ z'. (object_parts _ d ((estate_parts e d h).object n (omega arith))).none z ∙ sym ((object_parts _ d ((estate_parts e' d h').object n (omega arith))).none z'))
        (λ s'. sym (meets d e' e h' h has' has n (omega arith) (λ j b. sym (ih j b)) (omega arith))) (same_or_not (object_at e' n).pages 0))
        (λ s. meets d e e' h h' has has' n (omega arith) ih (omega arith)) (same_or_not (object_at e n).pages 0)

-- at each base the same object, or none in both
abbrev pub SameObjects : Table → Table → Type 0
SameObjects t t' = (base : ℕ) → SameObject (object_based t base) (object_based t' base)

-- the object with a base is the same value in both
based_same : (s s' : State) → sound s ≡ true → sound s' ≡ true → SameObjects s.table s'.table → (b : ℕ) → object_based s.table b ≡ object_based s'.table b
based_same s s' h h' same b =
    ⊎_elim (λ z. (based_answered s b h).none z ∙ sym ((based_answered s' b h').none (sym (same b).pages ∙ z)))
    (λ ne. same_object _ _ (b / 32) (based_ok s b h (omega arith)) (based_ok s' b h' (omega (arith, (same b).pages))) (same b))
    (same_or_not (object_based s.table b).pages 0)

-- so each object of an estate of the one stands in that of the other
estates_have : (s s' : State) → sound s ≡ true → sound s' ≡ true → ((b : ℕ) → object_based s.table b ≡ object_based s'.table b) → (d : ℕ) → d < 4
    → Has (estate_at s.table d) (estate_at s'.table d)
unfolding object_based based
estates_have s s' h h' same d l k m p =
    let e : Estate = estate_at s.table d in
    let e' : Estate = estate_at s'.table d in
    let ok = (state_parts s h).estate d l in
    let o : Object = object_at e k in
    let r = (object_parts o d ((estate_parts e d ok).object k m)).bounds p in
    let home : o.base / 32 ≡ d = omega (arith, r.from, r.to) in
    let own : has_base o.base o ≡ true = and_both (ap not (zero_not _ p)) (eq-eqb o.base o.base refl) in
    let w : based e' o.base ≡ o = sym (rw home at (same o.base)) ∙ only_object (has_base o.base) (base_single o.base) e d k ok m own in
    let f = pages_stands (has_base o.base) e' (rw w p) in
    (place_where (has_base o.base) e', f.within, f.there ∙ w)

-- TWO SOUND STATES WITH THE SAME OBJECTS HAVE THE SAME TABLE
pub one_table : (s s' : State) → sound s ≡ true → sound s' ≡ true → SameObjects s.table s'.table → s.table ≡ s'.table
one_table s s' h h' same =
    ap (λ l. record { estates = l })
    (by_places 4 s.table.estates s'.table.estates no_estate q.long_estates q'.long_estates
    (λ d l. ap (λ l. record { objects = l })
    (by_places 8 (estate_at s.table d).objects (estate_at s'.table d).objects no_object (estate_parts _ d (q.estate d l)).long (estate_parts _ d (q'.estate d l)).long
    (places_same d _ _ (q.estate d l) (q'.estate d l) (estates_have s s' h h' (based_same s s' h h' same) d l)
    (estates_have s' s h' h (λ b. sym (based_same s s' h h' same b)) d l) 8 (omega arith)))))
  where
    q : StateSound s
    q = state_parts s h

    q' : StateSound s'
    q' = state_parts s' h'
