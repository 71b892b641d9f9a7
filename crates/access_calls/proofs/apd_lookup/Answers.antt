use Prim.Native.Nat.{ℕ, ◌<◌}
use mathlib.Core.Path.{◌≡◌, refl}
use native.Mathlib.Nat.{le_of_eq}
use native.Mathlib.Omega.{arith}
use borrow.Author.Tests.{le-ltb, lt-ltb}
use Rattle.bounded.specs.Bools.{and_both}
use Rattle.calls.proofs.Parts.{answers_length, answers_range}
use Rattle.calls.specs.declared.Access.TheVariants.{Lookup}
use Rattle.access_calls.specs.Laws.{looked_up, rights_out}
use Rattle.access_calls.proofs.apd_lookup.Goals as goal

some_right : (n : ℕ) → (n ≡ 0 → ⊥) → 0 < n
some_right n h = omega arith

pub returns-then-store-ne-STORE_WORDS : goal.returns-then-store-ne-STORE_WORDS
returns-then-store-ne-STORE_WORDS c = answers_length _ _ _ (Lookup _ _) c.if-store-ne-STORE_WORDS.true refl refl

pub returns-then-rights-eq0 : goal.returns-then-rights-eq0
returns-then-rights-eq0 c = answers_range _ _ _ (Lookup _ _) c.if-store-ne-STORE_WORDS.false (rights_out _ _ (rw (le-ltb 0 _ (le_of_eq c.if-rights-eq0.true)))) refl refl

pub returns-then-rights-ge32 : goal.returns-then-rights-ge32
returns-then-rights-ge32 c = answers_range _ _ _ (Lookup _ _) c.if-store-ne-STORE_WORDS.false (rights_out _ _ (rw (lt-ltb _ _ (some_right _ c.if-rights-eq0.false), le-ltb _ _ c.if-rights-ge32.true))) refl refl

pub returns : goal.returns
returns c =
    let k = and_both (lt-ltb _ _ (some_right _ c.if-rights-eq0.false)) (lt-ltb _ 32 c.if-rights-ge32.false) in
    looked_up _ _ _ _ _ _ k c.accessed.ensures
