-- Members of a group.
use Rattle.std.specs.Prelude.{ℕ, ◌<◌, ◌≡◌, true, ltb}
use Rattle.std.proofs.Common.{ltb-true}
use Rattle.bounded.specs.Bools.{and_left}
use Rattle.isolation.specs.Group.{Group, member}

-- a member is one of the four domains
pub member_below : (G : Group) (d : ℕ) → member G d ≡ true → d < 4
unfolding member
member_below G d h = ltb-true d 4 (and_left (ltb d 4) _ h)
