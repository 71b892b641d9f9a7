use Rattle.std.proofs.Common.{◌∙◌, ◌≡◌, ap, eqb, not}
use Rattle.std.specs.Option.{is_some}
use Rattle.state.specs.Laws.Found.{is_found}
use Rattle.state.specs.Laws.Passwords.{place_of_bound}
use Rattle.state.specs.Lookup.{place_of, has_password}
use Rattle.state.proofs.objects.has_password.Goals as goal

pub returns : goal.returns
unfolding has_password
returns c =
    let e : c.is_some.result ≡ not (eqb (place_of c.args.o c.args.word) 4) =
    c.is_some.ensures ∙ ap is_some c.place_of.ensures ∙ is_found 4 _ (place_of_bound c.args.o c.args.word) in
    rw e
