use mathlib.Core.Path.{refl}
use Rattle.calls.specs.Rules.{rule, in_range, unlocked, late, changes}
use Rattle.calls.specs.Laws.Parts.{moves_told}
use Rattle.domain_calls.proofs.apd_get.Goals as goal

pub returns : goal.returns
unfolding rule in_range unlocked late changes
returns c t words long = moves_told _ _ _ _ long refl refl (λ d. refl) (λ d. refl) (λ d. c.frame_fields.ensures) refl (λ d. refl)
