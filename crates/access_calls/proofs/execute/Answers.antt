use mathlib.Core.Path.{refl, sym, ◌∙◌}
use Rattle.calls.specs.Laws.Exits.{exits}
use Rattle.calls.specs.declared.Access.TheVariants.{Execute}
use Rattle.access_calls.specs.Laws.{refused, granted}
use Rattle.access_calls.proofs.execute.Goals as goal

pub returns-in_err-accessed : goal.returns-in_err-accessed
returns-in_err-accessed c =
    rw (exits c.from_residual.ensures.1 refl) (refused _ _ _ (Execute _) refl (sym c.accessed.ensures ∙ c.in_err-accessed.was))

pub returns : goal.returns
returns c = granted _ _ _ (Execute _) refl (sym c.accessed.ensures ∙ c.in_ok-accessed.was)
