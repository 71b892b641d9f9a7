use Rattle.std.proofs.Common.{◌∙◌, ap, sym, rules}
use Rattle.state.specs.Lookup.{place_of}
use Rattle.state.specs.Update.{with_passwords, add_password}
use Rattle.state.specs.Laws.Found.{found_some, found_none}
use Rattle.updates.proofs.Past.{past}
use Rattle.updates.proofs.objects.add_password.Goals as goal

pub returns-in-Some : goal.returns-in-Some
unfolding add_password
returns-in-Some c = let f = found_some 4 _ _ (sym c.free_password_place.ensures ∙ c.in-Some.is) in rw f.1

pub returns-in_default : goal.returns-in_default
unfolding add_password
returns-in_default c =
    ap (with_passwords c.args.o)
    (sym (past c.args.o.passwords {n = 4} {k = place_of c.args.o 0} (search rules) (found_none 4 _ (sym c.free_password_place.ensures ∙ c.in_default.is)) _))
