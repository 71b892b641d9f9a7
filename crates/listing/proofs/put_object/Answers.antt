use mir.Val.{bool_byte}
use Rattle.std.proofs.Common.{ℕ, ◌≡◌, Bool, true, false, cond, not, refl, eqb}
use Rattle.listing.specs.Laws.{object_put}
use Rattle.listing.proofs.put_object.Goals as goal

one_is : (b : Bool) → bool_byte (not b) ≡ (let n : ℕ = cond b 0 1 in n)
one_is true = refl
one_is false = refl

pub returns : goal.returns
returns c = object_put c.args.o.now 3393 c.args.text.now _ c.requires
    (rw (c.password_count.ensures, c.from.ensures, one_is (eqb c.args.o.now.registration.password 0)) at c.put_line.ensures)
