-- A pair that has a mode, and the order of two pairs.
use Rattle.std.specs.Prelude.{ℕ, ◌/◌, ◌<◌, ◌≡◌, refl, Bool, true, false, cond, ◌⊎◌, ltb, eqb}
use Rattle.std.proofs.Common.{sym, inl, inr, arith, ltb-true, ltb-false, eqb-true}
use Rattle.bounded.specs.Bools.{flag}
use Rattle.state.specs.Lookup.{mode_of}
use Rattle.state.specs.Laws.Passwords.{mode_has}
use Rattle.state.specs.declared.Object.{Object}
use Rattle.judge.specs.Search.{pair_mode}
use Rattle.judge.specs.Pairs.{Before, NotAfter, TrueFor}

-- A pair with a mode is true for the object, and has the mode of its password.
pub pair_true : (o : Object) (word password : ℕ) → 0 < pair_mode o word password
    → TrueFor o word password × (pair_mode o word password ≡ mode_of o password)
unfolding pair_mode
pair_true o word password h = go (eqb (word / 256) o.base) refl h
  where
    go : (b : Bool) → eqb (word / 256) o.base ≡ b → 0 < cond b (mode_of o password) 0
        → TrueFor o word password × (cond b (mode_of o password) 0 ≡ mode_of o password)
    go true e n = (record { page = eqb-true _ _ e; has = mode_has o password n }, refl)
    go false e n = absurd (omega arith)

-- Of two pairs one comes before the other, or they are the same.
pub order : (i j slot place : ℕ) → NotAfter i j slot place ⊎ Before slot place i j
order i j slot place = by_slot (flag (ltb i slot)) (flag (ltb slot i))
  where
    by_place : i ≡ slot → (ltb j place ≡ true) ⊎ (ltb j place ≡ false) → (ltb place j ≡ true) ⊎ (ltb place j ≡ false)
        → NotAfter i j slot place ⊎ Before slot place i j
    by_place e (inl c) d = inl (inl (inr (e, ltb-true j place c)))
    by_place e (inr c) (inl d) = inr (inr (sym e, ltb-true place j d))
    by_place e (inr c) (inr d) = inl (inr (e, omega (arith, ltb-false j place c, ltb-false place j d)))

    by_slot : (ltb i slot ≡ true) ⊎ (ltb i slot ≡ false) → (ltb slot i ≡ true) ⊎ (ltb slot i ≡ false)
        → NotAfter i j slot place ⊎ Before slot place i j
    by_slot (inl a) b = inl (inl (inl (ltb-true i slot a)))
    by_slot (inr a) (inl b) = inr (inl (ltb-true slot i b))
    by_slot (inr a) (inr b) = by_place (omega (arith, ltb-false i slot a, ltb-false slot i b)) (flag (ltb j place)) (flag (ltb place j))
