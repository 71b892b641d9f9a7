-- What a call whose checks before judging pass sees and comes to, by how what it wants is judged.
use Rattle.std.specs.Prelude.{ℕ, ◌≡◌, refl, Bool, true, false, cond, Option, Some, None}
use Rattle.std.proofs.Common.{arith}
use Rattle.state.specs.Places.{estate_at, domain_at}
use Rattle.state.specs.declared.Frame.{Frame}
use Rattle.judge.specs.Judged.{judged}
use Rattle.calls.specs.View.{Want, nothing, rights, World, View, Found, first_failing, found_by, search, passes, permitted, within_limit}
use Rattle.calls.specs.Rules.{wanted, presented, charged, late}
use Rattle.calls.specs.Step.{Result, concluded}
use Rattle.calls.specs.declared.Call.{Call}
use Rattle.calls.specs.declared.Refusal.{Refusal}

-- how what a call wants is judged, and what the search gives then
abbrev pub judged_on : World → Frame → Want → Option ℕ
judged_on w f nothing = None
judged_on w f (rights target r) = judged w.state.table w.words f target r

abbrev pub given : World → Want → Option ℕ → Option Found
given w nothing j = None
given w (rights target r) j = found_by w target j

pub search_given : (w : World) (f : Frame) (want : Want) → search judged w f want ≡ given w want (judged_on w f want)
search_given w f nothing = refl
search_given w f (rights target r) = refl

-- the view of the call, and what it comes to
abbrev pub sees : World → ℕ → Call → Option ℕ → View
sees w d c j =
    record {
      domain = domain_at w.state d;
      estate = estate_at w.state.table d;
      found = given w (wanted c) j;
      live = passes w.state.table (presented c);
      permits = permitted w.state.accounts d (charged c);
      fits = within_limit w.state.table w.state.accounts d (charged c);
    }

abbrev pub comes : World → ℕ → Call → Option ℕ → Result
comes w d c j = concluded (first_failing (late d c (sees w d c j))) w d c (sees w d c j)

-- a check passes, and those after it, where none fails
pub passed : (b : Bool) (x : Option Refusal) (r : Refusal) → cond b x (Some r) ≡ None → (b ≡ true) × (x ≡ None)
passed true x r e = (refl, e)
passed false x r e = let z : ◌≡◌ {A = ℕ} 0 1 = cc in absurd (omega arith)
