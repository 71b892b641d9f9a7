-- Every call keeps a sound state sound, the accounts as they are, and the store as long as it is.
use Rattle.std.specs.Prelude.{ℕ, ◌≡◌, refl, true, List, [], ◌∷◌, length}
use Rattle.std.proofs.Common.{ap, ◌∙◌, ⊎_elim, arith, length-set}
use Rattle.soundness.specs.Sound.{sound}
use Rattle.soundness.specs.Laws.Domains.{with_domain_sound}
use Rattle.soundness.specs.Laws.Estates.{with_estate_sound}
use Rattle.judge.specs.Judged.{judged}
use Rattle.calls.specs.View.{World}
use Rattle.calls.specs.Changes.{Change, word, zeros, estate, domain, apply_one, apply_all}
use Rattle.calls.specs.Rules.{view, changes}
use Rattle.calls.specs.Step.{Result, step, unchecked}
use Rattle.calls.specs.Laws.Passed.{Refuses, Does}
use Rattle.calls.proofs.Passed.{step_cases, unchecked_cases}
use Rattle.calls.specs.Laws.Fit.{Fit, AllFit, done_fit}
use Rattle.calls.specs.declared.Call.{Call}
use Rattle.calls.specs.Laws.Sound.{zeroed_length}

-- a fit change keeps a sound state sound
one_sound : (c : Change) (w : World) → Fit c → sound w.state ≡ true → sound (apply_one c w).state ≡ true
one_sound (word a x) w f h = h
one_sound (zeros a n) w f h = h
one_sound (estate e x) w f h = with_estate_sound w.state e x f h
one_sound (domain d m) w f h = with_domain_sound w.state d m f h

all_sound : (cs : List Change) (w : World) → AllFit cs → sound w.state ≡ true → sound (apply_all cs w).state ≡ true
all_sound [] w f h = h
all_sound (c ∷ cs) w f h = all_sound cs (apply_one c w) f.1 (one_sound c w f.0 h)

-- no change touches the accounts
all_accounts : (cs : List Change) (w : World) → (apply_all cs w).state.accounts ≡ w.state.accounts
all_accounts [] w = refl
all_accounts (word a x ∷ cs) w = all_accounts cs (apply_one (word a x) w)
all_accounts (zeros a n ∷ cs) w = all_accounts cs (apply_one (zeros a n) w)
all_accounts (estate e x ∷ cs) w = all_accounts cs (apply_one (estate e x) w)
all_accounts (domain d m ∷ cs) w = all_accounts cs (apply_one (domain d m) w)

-- and the store stays as long as it is
one_length : (c : Change) (w : World) → Fit c → length w.words ≡ 8192 → length (apply_one c w).words ≡ 8192
one_length (word a x) w f h = length-set w.words a x ∙ h
one_length (zeros a n) w f h = zeroed_length a n w.words (omega arith) ∙ h
one_length (estate e x) w f h = h
one_length (domain d m) w f h = h

all_length : (cs : List Change) (w : World) → AllFit cs → length w.words ≡ 8192 → length (apply_all cs w).words ≡ 8192
all_length [] w f h = h
all_length (c ∷ cs) w f h = all_length cs (apply_one c w) f.1 (one_length c w f.0 h)

module _ (w : World) (d : ℕ) (c : Call) where
  refuses_sound : (r : Result) → Refuses w r → sound w.state ≡ true → sound r.outcome.state ≡ true
  refuses_sound r e h = rw e.1 h

  does_sound : (r : Result) → Does w d c r → sound w.state ≡ true → sound r.outcome.state ≡ true
  does_sound r (p, e) h = rw e (all_sound (changes d c (view judged w d c)) w (done_fit w d c h p) h)

  -- EVERY CALL KEEPS A SOUND STATE SOUND
  pub step_sound : sound w.state ≡ true → sound (step w d c).outcome.state ≡ true
  step_sound h = ⊎_elim (λ e. refuses_sound _ e h) (λ e. does_sound _ e.1 h) (step_cases w d c)

  -- and so with check 3 left out
  pub unchecked_sound : sound w.state ≡ true → sound (unchecked w d c).outcome.state ≡ true
  unchecked_sound h = ⊎_elim (λ e. refuses_sound _ e h) (λ e. does_sound _ e h) (unchecked_cases w d c)

  -- NO CALL CHANGES A LIMIT OR A SET
  pub step_accounts : (step w d c).outcome.state.accounts ≡ w.state.accounts
  step_accounts = ⊎_elim (λ e. rw e.1) (λ e. rw e.1.1 (all_accounts (changes d c (view judged w d c)) w)) (step_cases w d c)

  -- NO CALL CHANGES THE STORE'S LENGTH
  pub length_kept : length (step w d c).words ≡ length w.words
  length_kept =
      ⊎_elim (λ e. ap (λ r. length r.words) e.1)
      (λ e. let p = e.1.0 in rw (e.1.1, p.long) (all_length (changes d c (view judged w d c)) w (done_fit w d c e.0 p) p.long)) (step_cases w d c)

  -- a store of 8,192 words stays one
  pub words_kept : length w.words ≡ 8192 → length (step w d c).words ≡ 8192
  words_kept h = length_kept ∙ h
