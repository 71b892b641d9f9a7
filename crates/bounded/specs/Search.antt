-- Bounded search: the value at the first place that passes a test.
use Prim.Native.Nat.{ℕ, suc, ◌+◌, ◌-◌, ◌<◌, ◌≤◌}
use Rattle.std.specs.Prelude.{Bool, ◌⊎◌, ◌≡◌}
use Rattle.std.proofs.Math.Bool.{true, false, cond}
use Rattle.std.proofs.Math.Logic.{inl, inr, ⊎_elim}
use Rattle.std.proofs.Math.Path.{refl}
use Rattle.std.proofs.Common.{◌∙◌, sym}
use native.Mathlib.Omega.{arith}
use Rattle.bounded.specs.Bools.{same_or_not}

module _ {A : Type 0} (test : ℕ → Bool) (value : ℕ → A) (none : A) where
  -- of the `n` places from `i` on, the value at the first that passes the test, else `none`
  unfoldable pub first : ℕ → ℕ → A
  first i ℕ.zero = none
  first i (suc n) = cond (test i) (value i) (first (i + 1) n)

  pub first_end : (i n : ℕ) → n ≤ i → first i (n - i) ≡ none
  unfolding first
  first_end i n h = let e : n - i ≡ 0 = omega arith in rw e

  pub first_step : (i n : ℕ) → i < n → first i (n - i) ≡ cond (test i) (value i) (first (i + 1) (n - (i + 1)))
  unfolding first
  first_step i n h = let e : n - i ≡ suc (n - (i + 1)) = omega arith in rw e

-- what a loop that searches `n` places knows at place `i`
pub record Searching {A : Type 0} (test : ℕ → Bool) (value : ℕ → A) (none : A) (n i : ℕ) : Type 0 where
  pub bound : i ≤ n
  pub rest : first test value none 0 n ≡ first test value none i (n - i)

pub start : {A : Type 0} {test : ℕ → Bool} {value : ℕ → A} {none : A} {n : ℕ} → Searching test value none n 0
start {A} {test} {value} {none} {n} = record { bound = omega arith; rest = let e : n - 0 ≡ n = omega arith in rw e }

module _ {A : Type 0} {test : ℕ → Bool} {value : ℕ → A} {none : A} {n i : ℕ} (s : Searching test value none n i) where
  pub next : i < n → test i ≡ false → Searching test value none n (i + 1)
  next h p = record { bound = omega arith; rest = s.rest ∙ first_step test value none i n h ∙ rw p }

  pub stop : i < n → test i ≡ true → value i ≡ first test value none 0 n
  stop h p = sym (s.rest ∙ first_step test value none i n h ∙ rw p)

  pub over : n ≤ i → none ≡ first test value none 0 n
  over h = sym (s.rest ∙ first_end test value none i n h)

-- no place from `a` up to `b`, `b` itself left out, passes the test
pub record Skipped (test : ℕ → Bool) (a b : ℕ) : Type 0 where
  pub upward : a ≤ b
  pub fails : (k : ℕ) → a ≤ k → k < b → test k ≡ false

pub skipped_none : {test : ℕ → Bool} {a : ℕ} → Skipped test a a
skipped_none = record { upward = omega arith; fails = λ k l h. absurd (omega arith) }

pub skipped_more : {test : ℕ → Bool} {a b : ℕ} → Skipped test a b → test b ≡ false → Skipped test a (b + 1)
skipped_more {test} {a} {b} s e =
    record { upward = omega arith; fails = λ k l h. ⊎_elim (λ q. rw q e) (λ ne. s.fails k l (omega arith)) (same_or_not k b) }

-- what holds at place i, and goes from each place to the next up to j, holds at j
pub along : {i j : ℕ} (P : ℕ → Type 0) → P i → ((k : ℕ) → i ≤ k → k < j → P k → P (k + 1)) → i ≤ j → P j
along {i} {j} P p step h = let e : i + (j - i) ≡ j = omega arith in rw e at (go (j - i) (omega arith))
  where
    go : (m : ℕ) → i + m ≤ j → P (i + m)
    go ℕ.zero l = let e : i + 0 ≡ i = omega arith in rw e p
    go (suc m) l = let e : i + suc m ≡ i + m + 1 = omega arith in rw e (step (i + m) (omega arith) (omega arith) (go m (omega arith)))

-- what a loop that searches knows once it has passed over places that fail
pub skip : {A : Type 0} {test : ℕ → Bool} {value : ℕ → A} {none : A} {n i j : ℕ}
    → Searching test value none n i → Skipped test i j → j ≤ n → Searching test value none n j
skip {A} {test} {value} {none} {n} s g h =
    along (Searching test value none n) s (λ k a l q. next q (omega arith) (g.fails k a l)) g.upward

-- `a` is the value at a place that passes the test, and no place before it passes
pub record FirstAt {A : Type 0} (test : ℕ → Bool) (value : ℕ → A) (i n : ℕ) (a : A) : Type 0 where
  pub place : ℕ
  pub from : i ≤ place
  pub below : place < i + n
  pub there : value place ≡ a
  pub holds : test place ≡ true
  pub before : (j : ℕ) → i ≤ j → j < place → test j ≡ false

-- no place passes the test
abbrev pub NoneAt : (ℕ → Bool) → ℕ → ℕ → Type 0
NoneAt test i n = (j : ℕ) → i ≤ j → j < i + n → test j ≡ false

module _ {A : Type 0} (test : ℕ → Bool) (value : ℕ → A) (none : A) where
  -- the search finds the first place that passes, and says `none` where there is none
  pub first_cases : (i n : ℕ) → FirstAt test value i n (first test value none i n) ⊎ NoneAt test i n
  unfolding first
  first_cases i ℕ.zero = inr (λ j a z. absurd (omega arith))
  first_cases i (suc n) = go (test i) refl (first_cases (i + 1) n)
    where
      go : (t : Bool) → test i ≡ t → FirstAt test value (i + 1) n (first test value none (i + 1) n) ⊎ NoneAt test (i + 1) n
          → FirstAt test value i (suc n) (cond t (value i) (first test value none (i + 1) n)) ⊎ NoneAt test i (suc n)
      go true q ih =
          inl (record { place = i; from = omega arith; below = omega arith; there = refl; holds = q; before = λ j a z. absurd (omega arith) })
      go false q (inl r) =
          inl (record {
            place = r.place;
            from = omega arith;
            below = omega arith;
            there = r.there;
            holds = r.holds;
            before = λ j a z. ⊎_elim (λ e. rw e q) (λ ne. r.before j (omega arith) z) (same_or_not j i);
          })
      go false q (inr h) = inr (λ j a z. ⊎_elim (λ e. rw e q) (λ ne. h j (omega arith) (omega arith)) (same_or_not j i))

  pub first_none : (i n : ℕ) → NoneAt test i n → first test value none i n ≡ none
  unfolding first
  first_none i ℕ.zero h = refl
  first_none i (suc n) h =
      let q : test i ≡ false = h i (omega arith) (omega arith) in
      rw q (first_none (i + 1) n (λ j a z. h j (omega arith) (omega arith)))

  pub first_at : (i n : ℕ) (a : A) → FirstAt test value i n a → first test value none i n ≡ a
  unfolding first
  first_at i ℕ.zero a r = absurd (omega arith)
  first_at i (suc n) a r = go (same_or_not i r.place) (first_at (i + 1) n a)
    where
      go : (i ≡ r.place) ⊎ (i ≡ r.place → ⊥) → (FirstAt test value (i + 1) n a → first test value none (i + 1) n ≡ a)
          → cond (test i) (value i) (first test value none (i + 1) n) ≡ a
      go (inl w) ih =
          let h : value i ≡ a = rw w r.there in
          let q : test i ≡ true = rw w r.holds in
          rw q h
      go (inr w) ih =
          let q : test i ≡ false = r.before i (omega arith) (omega arith) in
          rw q
          (ih
          (record {
            place = r.place;
            from = omega arith;
            below = omega arith;
            there = r.there;
            holds = r.holds;
            before = λ j b z. r.before j (omega arith) z;
          }))

-- two searches that agree at each place agree
pub first_same : {A : Type 0} (test test' : ℕ → Bool) (value value' : ℕ → A) (none : A) (i n : ℕ)
    → ((j : ℕ) → i ≤ j → j < i + n → test j ≡ test' j) → ((j : ℕ) → i ≤ j → j < i + n → value j ≡ value' j)
    → first test value none i n ≡ first test' value' none i n
unfolding first
first_same test test' value value' none i ℕ.zero h g = refl
first_same test test' value value' none i (suc n) h g =
    rw (
      h i (omega arith) (omega arith),
      g i (omega arith) (omega arith),
      first_same test test' value value' none (i + 1) n (λ j a z. h j (omega arith) (omega arith)) (λ j a z. g j (omega arith) (omega arith)),
    )
