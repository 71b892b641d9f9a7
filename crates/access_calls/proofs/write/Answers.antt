use mathlib.Core.Path.{refl, sym, ◌∙◌}
use borrow.Author.Rules.{scaled_Fits}
use Rattle.calls.specs.Laws.Exits.{exits}
use Rattle.calls.specs.declared.Access.TheVariants.{Write}
use Rattle.access_calls.specs.Laws.{within, refused, granted}
use Rattle.access_calls.proofs.write.Goals as goal

pub offset_bounds-store-address : goal.offset_bounds-store-address
offset_bounds-store-address c =
    scaled_Fits _ _ _ (within c.args.t c.args.f c.args.store.now (Write c.args.address c.args.value) (sym c.accessed.ensures ∙ c.in_ok-accessed.was))
    c.well_formed.1.0.1

pub bounds-store-address : goal.bounds-store-address
bounds-store-address c = within c.args.t c.args.f c.args.store.now (Write c.args.address c.args.value) (sym c.accessed.ensures ∙ c.in_ok-accessed.was)

pub returns-in_err-accessed : goal.returns-in_err-accessed
returns-in_err-accessed c =
    rw (exits c.from_residual.ensures.1 refl) (refused _ _ _ (Write _ _) refl (sym c.accessed.ensures ∙ c.in_err-accessed.was))

pub returns : goal.returns
returns c = granted _ _ _ (Write _ _) refl (sym c.accessed.ensures ∙ c.in_ok-accessed.was)
