use Rattle.std.proofs.Common.{◌∙◌, ap, sym, arith, rules}
use Rattle.state.specs.Places.{no_object}
use Rattle.state.specs.Update.{insert_object}
use Rattle.state.specs.Laws.Found.{found_some, found_none}
use Rattle.updates.proofs.Shifts.{filled, not_put}
use Rattle.updates.proofs.estates.insert_object.Goals as goal

pub returns-in-Some : goal.returns-in-Some
unfolding insert_object
returns-in-Some c = let f = found_some 8 _ _ (sym c.place_above.ensures ∙ c.in-Some.is) in
    rw f.1
    (ap (λ l. record { objects = l })
    (filled no_object c.args.e.objects _ _ 7 c.args.o (omega (arith, f.0, f.1)) (search rules) c.copy_within.ensures.len
    c.copy_within.ensures.by_index.0 c.copy_within.ensures.by_index.1))

pub returns-in_default : goal.returns-in_default
unfolding insert_object
returns-in_default c =
    ap (λ l. record { objects = l })
    (not_put no_object c.args.e.objects _ 7 c.args.o (found_none 8 _ (sym c.place_above.ensures ∙ c.in_default.is)) (search rules))
