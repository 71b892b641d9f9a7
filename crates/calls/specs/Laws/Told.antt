-- What `if !f(..)` tells of the definition that f computes.
use Rattle.std.specs.Prelude.{◌≡◌, Bool, true, false, not}
use Rattle.std.proofs.Common.{sym, ◌∙◌}
use Rattle.std.proofs.lemmas.Bool.{not-true, not-false}

module _ {r b : Bool} (e : r ≡ b) where
  pub holds : not r ≡ false → b ≡ true
  holds h = sym e ∙ not-false r h

  pub fails : not r ≡ true → b ≡ false
  fails h = sym e ∙ not-true r h
