use Rattle.std.proofs.Common.{◌≡◌, ◌∙◌, ap, sym, arith, rules}
use Rattle.state.specs.Places.{no_password}
use Rattle.state.specs.Update.{with_passwords}
use Rattle.state.specs.Laws.Found.{found_some, found_none}
use Rattle.updates.proofs.Shifts.{closed, no_gap}
use Rattle.updates.proofs.objects.without_password.Goals as goal

pub returns-in-Some : goal.returns-in-Some
returns-in-Some c = let f = found_some 4 _ _ (sym c.place_of.ensures ∙ c.in-Some.is) in
    let z : c.default.result ≡ no_password = search rules in
    rw (f.1, z)
    (ap (with_passwords c.args.o)
    (closed no_password c.args.o.passwords _ _ 3 no_password (omega (arith, f.0, f.1)) (search rules) c.copy_within.ensures.len
    c.copy_within.ensures.by_index.0 c.copy_within.ensures.by_index.1))

pub returns-in_default : goal.returns-in_default
returns-in_default c =
    ap (with_passwords c.args.o)
    (no_gap no_password c.args.o.passwords _ 3 no_password (found_none 4 _ (sym c.place_of.ensures ∙ c.in_default.is)) (search rules))
