-- A gap in a list closed, and one opened: `copy_within` moves the values by one place, and a write fills the place that is left.
use Prim.Native.Nat.{ℕ, suc, ◌+◌, ◌-◌, ◌<◌, ◌≤◌}
use mathlib.Core.Path.{◌≡◌, refl, sym, ap, ◌∙◌}
use mathlib.Core.List.{List}
use native.Mathlib.Omega.{arith}
use lib.ListN.{length, get_or, set, length-set}
use lib.Seq.{get_or-set_same, get_or-set_other}
use Rattle.std.specs.List.{CopiedTo, SameBelow}
use Rattle.bounded.specs.Fill.{tabulate, tabulate_at, by_places}
use Rattle.bounded.specs.Shift.{put_in, in_cases, taken_out, out_cases}

tabulate_length : {A : Type 0} (n : ℕ) (f : ℕ → A) → length (tabulate n f) ≡ n
tabulate_length ℕ.zero f = refl
tabulate_length (suc n) f = ap suc (tabulate_length n (λ k. f (suc k)))

module _ {A : Type 0} (d : A) (l m : List A) (at last : ℕ) where
  -- those behind `at` moved one place up, and `none` written at the last
  pub closed : (none : A) → at ≤ last → length l ≡ suc last → length m ≡ length l
      → CopiedTo l m (at + 1) at (suc last - (at + 1)) → SameBelow l m at
      → set m last none ≡ tabulate (suc last) (taken_out (λ j. get_or l j d) last none at)
  closed none a n e moved below = by_places (suc last) _ _ d (length-set m last none ∙ e ∙ n) (tabulate_length (suc last) g) each
    where
      g : ℕ → A
      g j = taken_out (λ i. get_or l i d) last none at j

      each : (j : ℕ) → j < suc last → get_or (set m last none) j d ≡ get_or (tabulate (suc last) g) j d
      each j o =
          out_cases (λ i. get_or l i d) last none at (λ x. get_or (set m last none) j d ≡ x) j
          (λ p. get_or-set_other m last j none d (λ q. omega arith) ∙ below j d p)
          (λ p q. let w : at + 1 + (j - at) ≡ j + 1 = omega arith in
          get_or-set_other m last j none d (λ r. omega arith) ∙ moved j d p (omega arith) ∙ ap (λ i. get_or l i d) w)
          (λ p q. let w : j ≡ last = omega arith in rw w (get_or-set_same m last none d (omega (arith, e, n))))
          ∙ sym (tabulate_at (suc last) g j d o)

  -- those from `at` on moved one place down, and `v` written there
  pub filled : (v : A) → at ≤ last → length l ≡ suc last → length m ≡ length l
      → CopiedTo l m at (at + 1) (last - at) → SameBelow l m (at + 1)
      → set m at v ≡ tabulate (suc last) (put_in (λ j. get_or l j d) at v)
  filled v a n e moved below = by_places (suc last) _ _ d (length-set m at v ∙ e ∙ n) (tabulate_length (suc last) g) each
    where
      g : ℕ → A
      g j = put_in (λ i. get_or l i d) at v j

      each : (j : ℕ) → j < suc last → get_or (set m at v) j d ≡ get_or (tabulate (suc last) g) j d
      each j o =
          in_cases (λ i. get_or l i d) at v (λ x. get_or (set m at v) j d ≡ x) j
          (λ p. get_or-set_other m at j v d (λ q. omega arith) ∙ below j d (omega arith))
          (λ q. rw q (get_or-set_same m at v d (omega (arith, e, n))))
          (λ p. let w : at + (j - (at + 1)) ≡ j - 1 = omega arith in
          get_or-set_other m at j v d (λ q. omega arith) ∙ moved j d (omega arith) (omega arith) ∙ ap (λ i. get_or l i d) w)
          ∙ sym (tabulate_at (suc last) g j d o)

-- past the last place there is no gap
pub no_gap : {A : Type 0} (d : A) (l : List A) (at last : ℕ) (none : A) → suc last ≤ at → length l ≡ suc last
    → l ≡ tabulate (suc last) (taken_out (λ j. get_or l j d) last none at)
no_gap {A} d l at last none b n = by_places (suc last) l _ d n (tabulate_length (suc last) g) each
  where
    g : ℕ → A
    g j = taken_out (λ i. get_or l i d) last none at j

    each : (j : ℕ) → j < suc last → get_or l j d ≡ get_or (tabulate (suc last) g) j d
    each j m =
        out_cases (λ i. get_or l i d) last none at (λ x. get_or l j d ≡ x) j (λ p. refl) (λ p q. absurd (omega arith)) (λ p q. absurd (omega arith))
        ∙ sym (tabulate_at (suc last) g j d m)

-- past the last place nothing comes in
pub not_put : {A : Type 0} (d : A) (l : List A) (at last : ℕ) (v : A) → suc last ≤ at → length l ≡ suc last
    → l ≡ tabulate (suc last) (put_in (λ j. get_or l j d) at v)
not_put {A} d l at last v b n = by_places (suc last) l _ d n (tabulate_length (suc last) g) each
  where
    g : ℕ → A
    g j = put_in (λ i. get_or l i d) at v j

    each : (j : ℕ) → j < suc last → get_or l j d ≡ get_or (tabulate (suc last) g) j d
    each j m =
        in_cases (λ i. get_or l i d) at v (λ x. get_or l j d ≡ x) j (λ p. refl) (λ p. absurd (omega arith)) (λ p. absurd (omega arith))
        ∙ sym (tabulate_at (suc last) g j d m)
