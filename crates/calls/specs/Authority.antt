-- When a call comes to be judged and has the authority that it needs: document 01, "In checking order", checks 2 to 7.
use Rattle.std.specs.Prelude.{ℕ, ◌<◌, ◌≡◌, true, ◌↔◌, length}
use Rattle.state.specs.Places.{domain_at}
use Rattle.soundness.specs.Sound.{sound}
use Rattle.judge.specs.Granting.{Grantable}
use Rattle.judge.specs.declared.Target.{Target}
use Rattle.calls.specs.Answers.{number_of}
use Rattle.calls.specs.View.{World, Want, nothing, rights, passes}
use Rattle.calls.specs.Rules.{in_range, unlocked, wanted, presented}
use Rattle.calls.specs.Step.{step}
use Rattle.calls.specs.declared.Call.{Call}

-- the number that a call is answered with
abbrev pub answered : World → ℕ → Call → ℕ
answered w d c = number_of (step w d c).outcome.answer

-- checks 2 to 5 hold, so that the locks are looked at
pub record Comes (w : World) (d : ℕ) (c : Call) : Type 0 where
  pub long : length w.words ≡ 8192
  pub sound_state : sound w.state ≡ true
  pub domain : d < 4
  pub range : in_range c ≡ true

-- checks 2 to 6 hold, so that the call is judged
pub record Reaches (w : World) (d : ℕ) (c : Call) : Type 0 where
  pub comes : Comes w d c
  pub unlocks : unlocked c (domain_at w.state d).active ≡ true

-- a capability with all the rights stands in the domain's live lists, and no denying one anywhere in them
abbrev pub GrantableTo : World → ℕ → Target → ℕ → Type 0
GrantableTo w d target r = Grantable w.state.table w.words (domain_at w.state d).active target r

-- so of what a call wants
abbrev pub WantGrantable : World → ℕ → Want → Type 0
WantGrantable w d nothing = Unit {0}
WantGrantable w d (rights target r) = GrantableTo w d target r

-- what the call wants is grantable, and what it presents passes rule 1
pub record Authorised (w : World) (d : ℕ) (c : Call) : Type 0 where
  pub grantable : WantGrantable w d (wanted c)
  pub passing : passes w.state.table (presented c) ≡ true

module _ (w : World) (d : ℕ) where
  -- the call is done exactly where it comes to be judged and `A`; it is answered 7 exactly where it comes to be judged and not `A`
  abbrev pub DoneWhen : Call → Type 0 → Type 0
  DoneWhen c A = answered w d c ≡ 0 ↔ (Reaches w d c × A)

  abbrev pub SevenUnless : Call → Type 0 → Type 0
  SevenUnless c A = answered w d c ≡ 7 ↔ (Reaches w d c × (A → ⊥))
