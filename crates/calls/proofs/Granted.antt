-- DEMAND 2 at the door: which calls are answered 7.
use Rattle.std.specs.Prelude.{ℕ, ◌↔◌, None}
use Rattle.std.proofs.Math.Path.{◌≡◌, refl}
use Rattle.std.proofs.Math.Bool.{true}
use mathlib.Core.Logic.Iff
use native.Mathlib.Omega.{arith}
use Rattle.rights.specs.Modes.{pdx, owner}
use Rattle.clists.specs.Clist.{live}
use Rattle.judge.specs.Judged.{judged}
use Rattle.judge.specs.declared.Target.{Target}
use Rattle.judge.specs.declared.Target.TheVariants.{Address, Base}
use Rattle.calls.specs.View.{World, rights}
use Rattle.calls.specs.Changes.{capability}
use Rattle.calls.specs.Rules.{rule, wanted, presented, early, late, checks, view}
use Rattle.calls.specs.Authority.{answered, Reaches, GrantableTo, Authorised, SevenUnless}
use Rattle.calls.specs.Laws.Order.{rest_ascends}
use Rattle.calls.specs.Laws.Levels.{answers_level}
use Rattle.calls.specs.declared.Call.{Call}
use Rattle.calls.specs.declared.Call.TheVariants.{OnObject, OnDomain}
use Rattle.calls.specs.declared.ObjectCall.TheVariants.{AddPassword, DropPassword, Register}
use Rattle.calls.specs.declared.DomainCall.TheVariants.{Insert, PdxCall}
use Rattle.calls.specs.declared.Presented.{Presented}
use Rattle.calls.specs.declared.Entries.{Entries}
use Rattle.calls.specs.declared.Refusal.TheVariants.{NotGranted}
use Rattle.calls.specs.Laws.Granted.{front, sevens, later, front_hold, sevens_hold, sevens_level, alone}

module _ (w : World) (d : ℕ) (c : Call) where
  -- EVERY CALL is answered 7 exactly where it comes to be judged and is not authorised.
  pub answers_seven : answered w d c ≡ 7 ↔ (Reaches w d c × (Authorised w d c → ⊥))
  unfolding checks early late view
  answers_seven =
      Iff.trans
      (answers_level w d c NotGranted (front w d c) (sevens w d c) (later w d c) refl (omega arith, (omega arith, (omega arith, (omega arith, (omega arith, tt))))) (sevens_level w d c)
      (rest_ascends d c (view judged w d c)))
      (Iff.and (front_hold w d c) (Iff.not (sevens_hold w d c)))

module _ (w : World) (d : ℕ) where
  -- a call that wants rights and presents nothing, with or without checks from 8 on, is answered 7 exactly where they are not grantable
  pub ungranted_seven : (c : Call) {target : Target} {r : ℕ} → wanted c ≡ rights target r → presented c ≡ None
      → SevenUnless w d c (GrantableTo w d target r)
  ungranted_seven c e n = Iff.trans (answers_seven w d c) (Iff.and Iff.rfl (Iff.not (alone w d c e n)))

  -- AP, DP and CA
  pub add_seven : (b k m : ℕ) → SevenUnless w d (OnObject (AddPassword b k m)) (GrantableTo w d (Base b) owner)
  unfolding rule
  add_seven b k m = ungranted_seven (OnObject (AddPassword b k m)) refl refl

  pub drop_seven : (b k : ℕ) → SevenUnless w d (OnObject (DropPassword b k)) (GrantableTo w d (Base b) owner)
  unfolding rule
  drop_seven b k = ungranted_seven (OnObject (DropPassword b k)) refl refl

  pub call_seven : (a ch : ℕ) → SevenUnless w d (OnDomain (PdxCall a ch)) (GrantableTo w d (Address a) pdx)
  unfolding rule
  call_seven a ch = ungranted_seven (OnDomain (PdxCall a ch)) refl refl

  -- RG and IN, which present a Clist capability
  pub register_seven : (b k : ℕ) (l : Presented) (es : Entries)
      → SevenUnless w d (OnObject (Register b k l es)) (GrantableTo w d (Base b) owner × (live w.state.table (capability l) ≡ true))
  unfolding rule
  register_seven b k l es =
      Iff.trans (answers_seven w d _)
      (Iff.and Iff.rfl (Iff.not (λ x. (x.grantable, x.passing), λ h. record { grantable = h.0; passing = h.1 })))

  pub insert_seven : (i : ℕ) (l : Presented) → SevenUnless w d (OnDomain (Insert i l)) (live w.state.table (capability l) ≡ true)
  unfolding rule
  insert_seven i l =
      Iff.trans (answers_seven w d _) (Iff.and Iff.rfl (Iff.not (λ x. x.passing, λ h. record { grantable = tt; passing = h })))
