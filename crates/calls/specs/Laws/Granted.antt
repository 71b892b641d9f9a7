-- DEMAND 2 at the door: which answers a call gets by the rights that it wants and the capability that it presents.
-- Which calls are answered 7 is in proofs/Granted.antt.
use Rattle.std.specs.Prelude.{ℕ, List, [], ◌++◌, ◌↔◌, Option, Some, None}
use Rattle.std.proofs.Math.Path.{◌≡◌, refl}
use Rattle.std.proofs.Common.{sym, ◌∙◌, true≢false}
use Rattle.std.proofs.Math.Bool.{true}
use mathlib.Core.Logic.Iff
use native.Mathlib.Omega.{arith}
use Rattle.rights.specs.Modes.{read, write, execute, destroy}
use Rattle.state.specs.Places.{domain_at}
use Rattle.judge.specs.Judged.{judged}
use Rattle.judge.specs.Laws.Exactly.{granted_when}
use Rattle.judge.specs.declared.Target.{Target}
use Rattle.judge.specs.declared.Target.TheVariants.{Address, Base}
use Rattle.calls.specs.View.{World, Want, nothing, rights, View, Check, search, found_by, passes, is_some}
use Rattle.calls.specs.Rules.{rule, wanted, presented, early, granted_check, presented_check, late, checks, view}
use Rattle.calls.specs.Authority.{answered, Reaches, GrantableTo, WantGrantable, Authorised, DoneWhen}
use Rattle.calls.specs.Laws.Order.{AllHold, done_hold}
use Rattle.calls.specs.Laws.Levels.{all_append, Level, to_five, six, comes_hold}
use Rattle.calls.specs.declared.Call.{Call}
use Rattle.calls.specs.declared.Call.TheVariants.{OnStore, OnObject}
use Rattle.calls.specs.declared.Access.TheVariants.{Read, Write, Execute, Lookup}
use Rattle.calls.specs.declared.ObjectCall.TheVariants.{Delete}
use Rattle.calls.specs.declared.Presented.{Presented}
use Rattle.calls.specs.declared.Refusal.TheVariants.{NotGranted}

module _ (w : World) (d : ℕ) (c : Call) where
  -- checks 2 to 6, and those of number 7
  abbrev pub front : List Check
  front = to_five w d c ++ six w d c

  abbrev pub sevens : List Check
  sevens = granted_check (wanted c) (view judged w d c) ++ presented_check (presented c) (view judged w d c)

  abbrev pub later : List Check
  later = (rule c).rest d (view judged w d c)

  pub front_hold : AllHold front ↔ Reaches w d c
  front_hold =
      Iff.trans (all_append (to_five w d c) (six w d c))
      (Iff.trans (Iff.and (comes_hold w d c) Iff.rfl) (λ h. record { comes = h.0; unlocks = h.1.0 }, λ r. (r.comes, (r.unlocks, tt))))

  pub sevens_hold : AllHold sevens ↔ Authorised w d c
  unfolding view
  sevens_hold =
      Iff.trans (all_append (granted_check (wanted c) (view judged w d c)) _)
      (Iff.trans (Iff.and (granted_hold (wanted c) _ refl) (presented_hold (presented c) _ refl))
      (λ h. record { grantable = h.0; passing = h.1 }, λ x. (x.grantable, x.passing)))
    where
      found : (target : Target) (j : Option ℕ) → is_some (found_by w target j) ≡ true ↔ ((a : ℕ) × (j ≡ Some a))
      found target (Some a) = (λ h. (a, refl), λ h. refl)
      found target None = (λ h. absurd (true≢false (sym h)), λ h. let (a, e) = h in let z : ◌≡◌ {A = ℕ} 0 1 = cc in absurd (omega arith))

      granted_hold : (want : Want) (v : View) → v.found ≡ search judged w (domain_at w.state d).active want
          → AllHold (granted_check want v) ↔ WantGrantable w d want
      granted_hold nothing v e = (λ h. h, λ h. h)
      granted_hold (rights target r) v e =
          let g = Iff.trans (found target _) (granted_when w.state.table w.words (domain_at w.state d).active target r) in
          (λ h. g.0 (rw e at h.0), λ h. (rw e (g.1 h), tt))

      presented_hold : (p : Option Presented) (v : View) → v.live ≡ passes w.state.table p
          → AllHold (presented_check p v) ↔ passes w.state.table p ≡ true
      presented_hold None v e = (λ h. refl, λ h. tt)
      presented_hold (Some l) v e = (λ h. sym e ∙ h.0, λ h. (e ∙ h, tt))

  pub sevens_level : Level NotGranted sevens
  sevens_level = go (wanted c) (presented c)
    where
      go : (want : Want) (p : Option Presented) → Level NotGranted (granted_check want (view judged w d c) ++ presented_check p (view judged w d c))
      go nothing None = tt
      go nothing (Some l) = (refl, tt)
      go (rights target r) None = (refl, tt)
      go (rights target r) (Some l) = (refl, (refl, tt))

  -- EVERY CALL is done exactly where it comes to be judged, is authorised, and passes the checks from 8 on.
  pub answers_done : answered w d c ≡ 0 ↔ (Reaches w d c × (Authorised w d c × AllHold later))
  unfolding checks early late view
  answers_done =
      Iff.trans (done_hold w d c)
      (Iff.trans (all_append front (sevens ++ later)) (Iff.and front_hold (Iff.trans (all_append sevens later) (Iff.and sevens_hold Iff.rfl))))

module _ (w : World) (d : ℕ) where
  -- a call that wants rights and presents nothing is authorised exactly where they are grantable
  pub alone : (c : Call) {target : Target} {r : ℕ} → wanted c ≡ rights target r → presented c ≡ None → Authorised w d c ↔ GrantableTo w d target r
  alone c e n = (λ x. rw e at x.grantable, λ g. record { grantable = rw e g; passing = rw n refl })

  -- such a call, where it makes no checks from 8 on, is done exactly so
  pub granted_done : (c : Call) {target : Target} {r : ℕ} → wanted c ≡ rights target r → presented c ≡ None → later w d c ≡ []
      → DoneWhen w d c (GrantableTo w d target r)
  granted_done c e n z =
      Iff.trans (answers_done w d c) (Iff.and Iff.rfl (Iff.trans (λ h. h.0, λ x. (x, rw z tt)) (alone c e n)))

  -- RD, WR, EX, LK and DL
  pub read_done : (a : ℕ) → DoneWhen w d (OnStore (Read a)) (GrantableTo w d (Address a) read)
  unfolding rule
  read_done a = granted_done (OnStore (Read a)) refl refl refl

  pub write_done : (a x : ℕ) → DoneWhen w d (OnStore (Write a x)) (GrantableTo w d (Address a) write)
  unfolding rule
  write_done a x = granted_done (OnStore (Write a x)) refl refl refl

  pub execute_done : (a : ℕ) → DoneWhen w d (OnStore (Execute a)) (GrantableTo w d (Address a) execute)
  unfolding rule
  execute_done a = granted_done (OnStore (Execute a)) refl refl refl

  pub lookup_done : (a r : ℕ) → DoneWhen w d (OnStore (Lookup a r)) (GrantableTo w d (Address a) r)
  unfolding rule
  lookup_done a r = granted_done (OnStore (Lookup a r)) refl refl refl

  pub delete_done : (b : ℕ) → DoneWhen w d (OnObject (Delete b)) (GrantableTo w d (Base b) destroy)
  unfolding rule
  delete_done b = granted_done (OnObject (Delete b)) refl refl refl
