-- Three and four tests that all pass, and the test of a place that may be unused.
use Rattle.std.specs.Prelude.{◌≡◌, Bool, true, false, cond, ◌&&◌}
use Rattle.bounded.specs.Bools.{and_left, and_right}

pub all3 : (a b c : Bool) → (a && b && c) ≡ true → (a ≡ true) × (b ≡ true) × (c ≡ true)
all3 a b c h = let ab = and_left (a && b) c h in (and_left a b ab, and_right a b ab, and_right (a && b) c h)

pub all4 : (a b c d : Bool) → (a && b && c && d) ≡ true → (a ≡ true) × (b ≡ true) × (c ≡ true) × (d ≡ true)
all4 a b c d h = let abc = all3 a b c (and_left (a && b && c) d h) in (abc.0, abc.1, abc.2, and_right (a && b && c) d h)

-- where the place is unused, the first test passes; where it is in use, the second
pub unused_test : (unused zero bound : Bool) → cond unused zero bound ≡ true → unused ≡ true → zero ≡ true
unused_test unused zero bound h e = rw e at h

pub used_test : (unused zero bound : Bool) → cond unused zero bound ≡ true → unused ≡ false → bound ≡ true
used_test unused zero bound h e = rw e at h
