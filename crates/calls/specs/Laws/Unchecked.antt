-- Check 3 apart: where it passes, or is not reached, a call does what `unchecked` says; else it is refused by 3.
use Rattle.std.specs.Prelude.{ℕ, ◌≡◌, Bool, not, ◌||◌, length}
use Rattle.std.proofs.Math.Path.{refl}
use Rattle.std.proofs.Common.{sym, true≢false}
use Rattle.std.proofs.Math.Bool.{true, false}
use Rattle.std.proofs.Math.Dec.{eqb}
use Rattle.bounded.specs.Bools.{or_unless}
use Rattle.soundness.specs.Sound.{sound}
use Rattle.calls.specs.View.{World}
use Rattle.calls.specs.Step.{step_by, unchecked_by, step, unchecked, refused, admitted}
use Rattle.calls.specs.declared.Call.{Call}
use Rattle.calls.specs.declared.Refusal.TheVariants.{Unsound}

module _ (w : World) (d : ℕ) (c : Call) where
  -- on a sound state, and on a store of another length, check 3 does not matter
  pub step_unchecked : admitted w ≡ true → step w d c ≡ unchecked w d c
  unfolding step_by unchecked_by admitted
  step_unchecked h = go (eqb (length w.words) 8192) (sound w.state) refl refl h
    where
      go : (a b : Bool) → eqb (length w.words) 8192 ≡ a → sound w.state ≡ b → (not a || b) ≡ true → step w d c ≡ unchecked w d c
      go true true p q e = rw q
      go true false p q e = absurd (true≢false (sym e))
      go false b p q e = rw p

  -- on a sound state, whatever the store's length
  pub sound_unchecked : sound w.state ≡ true → step w d c ≡ unchecked w d c
  unfolding admitted
  sound_unchecked h = step_unchecked (or_unless (not (eqb (length w.words) 8192)) (sound w.state) (λ e. h))

  -- a state that is not sound is refused, where the store has its length
  pub step_unsound : admitted w ≡ false → step w d c ≡ refused w Unsound
  unfolding step_by admitted
  step_unsound h = go (eqb (length w.words) 8192) (sound w.state) refl refl h
    where
      go : (a b : Bool) → eqb (length w.words) 8192 ≡ a → sound w.state ≡ b → (not a || b) ≡ false → step w d c ≡ refused w Unsound
      go true true p q e = absurd (true≢false e)
      go true false p q e = rw (p, q)
      go false b p q e = absurd (true≢false e)
