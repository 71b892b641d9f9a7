-- A search that finds something was granted by a pair, on an object that stands; one for P, on an object with a registration.
use Rattle.std.specs.Prelude.{ℕ, ◌/◌, ◌<◌, ◌≡◌, refl, true, Option, Some, None}
use Rattle.std.proofs.Common.{arith}
use Rattle.rights.specs.Bits.{bit}
use Rattle.rights.specs.Modes.{pdx}
use Rattle.state.specs.Lookup.{object_covering}
use Rattle.state.specs.Laws.Extent.{not_zero}
use Rattle.soundness.specs.Sound.{sound}
use Rattle.soundness.specs.Laws.Found.{covering_answered}
use Rattle.state.specs.declared.Frame.{Frame}
use Rattle.judge.specs.Search.{targeted}
use Rattle.judge.specs.Judged.{judged}
use Rattle.judge.specs.Laws.Grant.{TruePair, grant_means, grant_registered}
use Rattle.judge.specs.declared.Target.{Target}
use Rattle.judge.specs.declared.Target.TheVariants.{Address}
use Rattle.calls.specs.View.{rights, World, search, found_by, is_some}

-- granted by a pair, which is true for the object asked for
pub record Granting (w : World) (f : Frame) (target : Target) (r : ℕ) : Type 0 where
  pub pair : ℕ
  pub judgement : judged w.state.table w.words f target r ≡ Some pair
  pub pages : 0 < (targeted w.state.table target).pages
  pub means : TruePair w.words (targeted w.state.table target) r pair

pub was_granted : (w : World) (f : Frame) (target : Target) (r : ℕ) → is_some (search judged w f (rights target r)) ≡ true → Granting w f target r
was_granted w f target r h = go (judged w.state.table w.words f target r) refl h
  where
    go : (j : Option ℕ) → judged w.state.table w.words f target r ≡ j → is_some (found_by w target j) ≡ true → Granting w f target r
    go (Some pair) e h =
        let m = grant_means w.state.table w.words f target r pair e in
        record { pair = pair; judgement = e; pages = not_zero _ m.stands; means = m }
    go None e h = let z : ◌≡◌ {A = ℕ} 0 1 = cc in absurd (omega arith)

-- An object that P is granted on has a registration.
pub called_registered : (w : World) (f : Frame) (a pair : ℕ) → sound w.state ≡ true
    → judged w.state.table w.words f (Address a) pdx ≡ Some pair → 0 < (object_covering w.state.table (a / 64)).registration.password
unfolding bit
called_registered w f a pair h e =
    let m = grant_means w.state.table w.words f (Address a) pdx pair e in
    let b = (covering_answered w.state (a / 64) h).bounds (not_zero _ m.stands) in
    rw (grant_registered w.words _ pdx pair (a / 64 / 32) b refl m) m.nonzero
