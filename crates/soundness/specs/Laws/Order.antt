-- The order of the objects of a sound estate: document 02, T-06. They stand in the first places, by rising base, no two have a page in
-- common, and there is room for another unless eight stand.
use Rattle.std.specs.Prelude.{ℕ, suc, ◌+◌, ◌<◌, ◌≤◌, ◌≡◌, Bool, ◌⊎◌, ltb}
use Rattle.std.proofs.Math.Path.{refl, ap}
use Rattle.std.proofs.Common.{sym, inl, inr, arith, add-one, leb-true, le-leb, ltb-true, ltb-false}
use Rattle.std.proofs.Math.Bool.{true, false, not}
use Rattle.std.proofs.lemmas.Bool.{not-true}
use Rattle.bounded.specs.Bools.{and_left, and_right, and_no, unless, or_unless, same_or_not}
use Rattle.bounded.specs.Every.{below, below_all}
use Rattle.state.specs.Places.{object_at}
use Rattle.state.specs.Extent.{free, apart}
use Rattle.state.specs.Lookup.{has_room}
use Rattle.state.specs.Laws.Extent.{zero_not, not_zero, parts_apart, SameRun}
use Rattle.soundness.specs.Sound.{follows, estate_ok}
use Rattle.soundness.specs.Laws.StateParts.{estate_parts}
use Rattle.state.specs.declared.Object.{Object}
use Rattle.state.specs.declared.Estate.{Estate}

-- a stands, and ends before the base of b
pub record Before (a b : Object) : Type 0 where
  pub stands : 0 < a.pages
  pub ends : a.base + a.pages ≤ b.base

pub follows_parts : (a b : Object) → follows a b ≡ true → 0 < b.pages → Before a b
unfolding follows
follows_parts a b h p =
    let both = unless (free b) _ h (zero_not _ p) in
    record { stands = not_zero _ (not-true _ (and_left _ _ both)); ends = leb-true _ _ (and_right (not (free a)) _ both) }

pub parts_follows : (a b : Object) → (0 < b.pages → Before a b) → follows a b ≡ true
unfolding follows
parts_follows a b h =
    or_unless (free b) _ (λ e. let r = h (not_zero _ e) in let n = zero_not _ r.stands in rw n (le-leb _ _ r.ends))

-- whether one follows another hangs on their runs alone
pub follows_run : (a b c d : Object) → SameRun a c → SameRun b d → follows c d ≡ true → follows a b ≡ true
unfolding follows
follows_run a b c d r s h = rw (r.base, r.pages, s.base, s.pages) h

-- one behind another that is behind a third
pub follows_through : (a b c : Object) → follows a b ≡ true → follows b c ≡ true → follows a c ≡ true
follows_through a b c h k =
    parts_follows a c
    (λ p. let s = follows_parts b c k p in let r = follows_parts a b h s.stands in record { stands = r.stands; ends = omega (arith, r.ends, s.ends) })

module _ (e : Estate) (d : ℕ) (h : estate_ok e d ≡ true) where
  -- OF TWO PLACES of a sound estate the first has an object where the second has one, and it ends before that one's base
  pub estate_before : (i j : ℕ) → i < j → j < 8 → 0 < (object_at e j).pages → Before (object_at e i) (object_at e j)
  estate_before i ℕ.zero l m p = absurd (omega arith)
  estate_before i (suc j) l m p = go (same_or_not i j) (estate_before i j)
    where
      next : Before (object_at e j) (object_at e (suc j))
      next = follows_parts _ _ (rw (add-one j) at ((estate_parts e d h).order j (omega arith))) p

      go : (i ≡ j) ⊎ (i ≡ j → ⊥) → (i < j → j < 8 → 0 < (object_at e j).pages → Before (object_at e i) (object_at e j)) → Before (object_at e i) (object_at e (suc j))
      go (inl w) ih = rw w next
      go (inr ne) ih =
          let r = ih (omega arith) (omega arith) next.stands in
          record { stands = r.stands; ends = omega (arith, r.ends, next.ends, next.stands) }

  -- THE OBJECTS AT TWO PLACES have no page in common
  pub estate_apart : (i j : ℕ) → i < 8 → j < 8 → (i ≡ j → ⊥) → apart (object_at e i) (object_at e j) ≡ true
  estate_apart i j l m ne = go (ltb i j) refl
    where
      go : (b : Bool) → ltb i j ≡ b → apart (object_at e i) (object_at e j) ≡ true
      go true t = parts_apart _ _ (λ p q. inl (estate_before i j (ltb-true i j t) m q).ends)
      go false t = parts_apart _ _ (λ p q. inr (estate_before j i (omega (arith, ltb-false i j t)) l p).ends)

  -- FULL: there is no room exactly where an object stands at each of the eight places
  pub room_exactly : has_room e ≡ not (below 8 (λ k. not (free (object_at e k))))
  unfolding has_room below
  room_exactly = go (free (object_at e 7)) refl
    where
      stands : free (object_at e 7) ≡ false → (k : ℕ) → k < 7 → not (free (object_at e k)) ≡ true
      stands t k l = ap not (zero_not _ (estate_before k 7 l (omega arith) (not_zero _ t)).stands)

      go : (b : Bool) → free (object_at e 7) ≡ b → has_room e ≡ not (below 8 (λ k. not (free (object_at e k))))
      go true t = rw t (ap not (sym (and_no (below 7 (λ k. not (free (object_at e k)))) refl)))
      go false t = rw (t, below_all 7 (λ k. not (free (object_at e k))) (stands t))
