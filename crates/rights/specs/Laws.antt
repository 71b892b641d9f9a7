-- What a grant, a denial and a legal mode are, right by right: `bit` and `Shares` are defined in Bits.antt.
-- A mode is positive where bit 7, NOT, is 0, and negative where it is 1.
use Rattle.std.specs.Prelude.{ℕ, suc, ◌+◌, ◌<◌, ◌≤◌, Bool, true, false, cond, ◌≡◌, refl, ◌↔◌, eqb, get_or}
use Rattle.std.proofs.Common.{ap, ◌∙◌, ltb-true, lt-ltb, le-ltb}
use Rattle.bounded.specs.Bools.{and_left}
use Rattle.bounded.specs.Fill.{tabulate_at}
use Rattle.rights.specs.Modes.{legal, grants, denies, holds_all, holds_none}
use Rattle.rights.specs.Table.{entry, mode_table}
use Rattle.rights.specs.Bits.{bit, Shares, all_exactly, any_exactly, clear_exactly, set_exactly, spare_exactly, beside_exactly, and_exactly}

-- A mode grants a set exactly where it is positive and holds every right of the set.
pub grants_exactly : (m w : ℕ) → grants m w ≡ true ↔ (bit 7 m ≡ 0) × ((k : ℕ) → bit k w ≡ 1 → bit k m ≡ 1)
grants_exactly m w = and_exactly (clear_exactly 7 m) (all_exactly m w)

-- A mode denies a set exactly where it is negative and holds some right of the set.
pub denies_exactly : (m w : ℕ) → denies m w ≡ true ↔ (bit 7 m ≡ 1) × Shares m w
denies_exactly m w = and_exactly (set_exactly 7 m) (any_exactly m w)

-- A mode never both grants and denies a set.
pub never_both : (m w : ℕ) → grants m w ≡ true → denies m w ≡ false
never_both m w h = rw (and_left (holds_none m 128) (holds_all m w) h)

-- A legal mode is below 256, has bits 32 and 64 clear, holds at least one right, and holds P only beside NOT.
pub record Legal (m : ℕ) : Type 0 where
  pub below : m < 256
  pub clear_32 : bit 5 m ≡ 0
  pub clear_64 : bit 6 m ≡ 0
  pub some_right : Shares m 31
  pub pdx_beside_not : bit 4 m ≡ 1 → bit 7 m ≡ 1

pub legal_exactly : (m : ℕ) → legal m ≡ true ↔ Legal m
legal_exactly m =
    let bounds = and_exactly (ltb-true m 256, lt-ltb m 256) (spare_exactly m) in
    let parts = and_exactly (and_exactly bounds (any_exactly m 31)) (beside_exactly 4 7 m) in (
      λ h.
          let p = parts.0 h in
          record { below = p.0.0.0; clear_32 = p.0.0.1.0; clear_64 = p.0.0.1.1; some_right = p.0.1; pdx_beside_not = p.1 },
      λ l. parts.1 (((l.below, (l.clear_32, l.clear_64)), l.some_right), l.pdx_beside_not),
    )

-- how many numbers below `n` pass the test `p`
abbrev pub count : (ℕ → Bool) → ℕ → ℕ
count p ℕ.zero = 0
count p (suc n) = cond (p n) 1 0 + count p n

-- Of the numbers below 256 exactly 46 are legal modes, and every legal mode is below 256.
pub legal_count : count legal 256 ≡ 46
legal_count = refl

pub legal_below : (m : ℕ) → legal m ≡ true → m < 256
legal_below m h = ((legal_exactly m).0 h).below

-- The mode table has the rule's entry for each mode, and 46 entries that are 1.
pub table_at : (m : ℕ) → m < 256 → get_or mode_table m 0 ≡ entry m
unfolding mode_table
table_at m h = tabulate_at 256 entry m 0 h

pub table_count : count (λ m. eqb (get_or mode_table m 0) 1) 256 ≡ 46
unfolding mode_table
table_count = refl

-- So a number that stands in the table is a legal mode exactly where its entry is 1; any other is none.
pub table_legal : (m : ℕ) → m < 256 → eqb (get_or mode_table m 0) 1 ≡ legal m
table_legal m h = ap (λ (e : ℕ). eqb e 1) (table_at m h) ∙ one (legal m)
  where
    one : (b : Bool) → eqb (cond b 1 0) 1 ≡ b
    one true = refl
    one false = refl

pub above_illegal : (m : ℕ) → 256 ≤ m → false ≡ legal m
above_illegal m h = rw (le-ltb m 256 h)
