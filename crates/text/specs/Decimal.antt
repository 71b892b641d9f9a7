-- A number in decimal.
use Rattle.std.specs.Prelude.{ℕ, zero, suc, ◌+◌, ◌-◌, ◌*◌, ◌/◌, ◌%◌, ◌^◌, ◌<◌, ◌≤◌, ◌≡◌, refl, cond, List, [], ◌∷◌, ◌++◌, ltb}
use Rattle.std.proofs.Math.Nat.{pow-succ', one-le-pow, pow-le-pow_right}
use Rattle.std.proofs.Common.{add-one, arith, lt-ltb, le-ltb}

-- n in decimal, of at most k digits
unfoldable pub digits_in : ℕ → ℕ → List ℕ
digits_in zero n = []
digits_in (suc k) n = cond (ltb n 10) ((48 + n) ∷ []) (digits_in k (n / 10) ++ ((48 + n % 10) ∷ []))

-- a 64-bit number in decimal
unfoldable pub decimal : ℕ → List ℕ
decimal n = digits_in 20 n

pub decimal_small : (d : ℕ) → d < 10 → decimal d ≡ (48 + d) ∷ []
unfolding decimal digits_in
decimal_small d h = rw (lt-ltb d 10 h)

-- the last k digits of n
abbrev pub last_digits : ℕ → ℕ → List ℕ
last_digits zero n = []
last_digits (suc k) n = last_digits k (n / 10) ++ ((48 + n % 10) ∷ [])

-- n has k digits
pub record Places (n k : ℕ) : Type 0 where
  pub some : 0 < k
  pub few : k ≤ 20
  pub below : n < 10 ^ k
  pub reached : 1 < k → 10 ^ (k - 1) ≤ n

-- as many of the last digits as there are places: all
last_are : (m k n : ℕ) → k ≤ m → n < 10 ^ suc k → (0 < k → 10 ^ k ≤ n) → last_digits (suc k) n ≡ digits_in (suc m) n
unfolding digits_in
last_are m zero n q h l =
    let e : n % 10 ≡ n = omega arith in
    rw (e, lt-ltb n 10 (omega arith))
last_are zero (suc k) n q h l = absurd (omega arith)
last_are (suc m) (suc k) n q h l =
    let a = pow-succ' 10 (suc k) in
    let b = pow-succ' 10 k in
    let p : 1 ≤ 10 ^ k = one-le-pow k 10 (omega arith) in
    let w = l (omega arith) in
    rw (last_are m k (n / 10) (omega arith) (omega arith) (λ z. omega arith), le-ltb n 10 (omega arith))

pub all_digits : (k n : ℕ) → Places n k → last_digits k n ≡ decimal n
unfolding decimal
all_digits zero n p = absurd (omega (arith, p.some))
all_digits (suc k) n p =
    let e : suc k - 1 ≡ k = omega arith in
    last_are 19 k n (omega (arith, p.few)) p.below (λ z. rw e at (p.reached (omega arith)))

-- what a loop that counts the places of n knows at the k-th power of ten
pub record Counting (n k power : ℕ) : Type 0 where
  pub is : power ≡ 10 ^ k
  pub some : 0 < k
  pub few : k ≤ 19
  pub reached : 1 < k → 10 ^ (k - 1) ≤ n

module _ {n : ℕ} where
  pub counting_none : Counting n 1 10
  counting_none = record { is = refl; some = omega arith; few = omega arith; reached = λ h. absurd (omega arith) }

  module _ {k power : ℕ} (c : Counting n k power) where
    pub counting_fits : (k ≡ 19 → ⊥) → power * 10 < 2 ^ 64
    counting_fits h =
        let few = c.few in
        let g : 10 ^ k ≤ 10 ^ 18 = pow-le-pow_right (omega arith) {j = 18} (omega arith) in
        omega (arith, c.is)

    pub counting_more : (k ≡ 19 → ⊥) → power ≤ n → Counting n (k + 1) (power * 10)
    counting_more h l =
        let few = c.few in
        let e : k + 1 - 1 ≡ k = omega arith in
        record {
          is = rw (add-one k) (omega (arith, c.is, pow-succ' 10 k));
          some = omega arith;
          few = omega arith;
          reached = λ z. rw e (omega (arith, c.is));
        }

    pub counted : n < power → Places n k
    counted h = record { some = c.some; few = omega (arith, c.few); below = omega (arith, c.is); reached = c.reached }

    pub counted_all : k ≡ 19 → power ≤ n → n < 2 ^ 64 → Places n 20
    counted_all e l h =
        let w : power ≡ 10 ^ 19 = rw e at c.is in
        record { some = omega arith; few = omega arith; below = omega arith; reached = λ z. omega arith }
