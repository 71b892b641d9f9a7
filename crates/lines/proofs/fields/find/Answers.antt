use Prim.Native.Nat.{ℕ, ◌+◌, ◌-◌, ◌<◌, ◌≤◌}
use mathlib.Core.Path.{◌≡◌}
use mathlib.Core.List.{List}
use native.Mathlib.Omega.{arith}
use lib.ListN.{length, drop, get_or}
use Rattle.lines.specs.Until.{until, Seeking, seeking_more, seeking_found, until_within}
use Rattle.lines.proofs.fields.find.Goals as goal

-- past the first of four bytes of a turn, and so past the next ones
module _ (b : ℕ) (s : List ℕ) (from i : ℕ) (k : Seeking b s from i) (l : i + 4 ≤ length s) where
  abbrev Other : ℕ → Type 0
  Other j = get_or s j 0 ≡ b → ⊥

  past : (m j : ℕ) → Seeking b s from m → j ≡ m + 1 → m < length s → Other m → Seeking b s from j
  past m j w e h n = rw e (seeking_more w h n)

  past1 : Other i → Seeking b s from (i + 1)
  past1 w = past i (i + 1) k (omega arith) (omega arith) w

  past2 : Other i → Other (i + 1) → Seeking b s from (i + 2)
  past2 w x = past (i + 1) (i + 2) (past1 w) (omega arith) (omega arith) x

  past3 : Other i → Other (i + 1) → Other (i + 2) → Seeking b s from (i + 3)
  past3 w x y = past (i + 2) (i + 3) (past2 w x) (omega arith) (omega arith) y

  past4 : Other i → Other (i + 1) → Other (i + 2) → Other (i + 3) → Seeking b s from (i + 4)
  past4 w x y z = past (i + 3) (i + 4) (past3 w x y) (omega arith) (omega arith) z

-- what is promised of a byte that is found
found : {b : ℕ} {s : List ℕ} {from i : ℕ} → Seeking b s from i → i < length s → get_or s i 0 ≡ b
    → (i ≡ from + until b (drop from s)) × (from ≤ i) × (i ≤ from + (length s - from))
found k h n = let e = seeking_found k h n in (e, k.start, until_within _ _ _ e)

pub returns-then-s-i-2 : goal.returns-then-s-i-2
returns-then-s-i-2 c =
    found (past1 c.args.b c.args.s.now c.args.from c.loop-i.i c.loop-i.invariant.0 (omega arith) c.if-s-i.false) (omega arith) c.if-s-i-2.true

pub returns-then-s-i-3 : goal.returns-then-s-i-3
returns-then-s-i-3 c =
    found (past2 c.args.b c.args.s.now c.args.from c.loop-i.i c.loop-i.invariant.0 (omega arith) c.if-s-i.false c.if-s-i-2.false) (omega arith)
    c.if-s-i-3.true

pub returns-then-s-i-4 : goal.returns-then-s-i-4
returns-then-s-i-4 c =
    found (past3 c.args.b c.args.s.now c.args.from c.loop-i.i c.loop-i.invariant.0 (omega arith) c.if-s-i.false c.if-s-i-2.false c.if-s-i-3.false)
    (omega arith) c.if-s-i-4.true

pub loop-i-preserved : goal.loop-i-preserved
loop-i-preserved c = (
  past4 c.args.b c.args.s.now c.args.from c.loop-i.i c.loop-i.invariant.0 (omega arith) c.if-s-i.false c.if-s-i-2.false c.if-s-i-3.false
      c.if-s-i-4.false,
  omega arith,
)
