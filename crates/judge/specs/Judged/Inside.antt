-- What the judgement is. Only the proofs of this crate and modules of examples cite it.
use Rattle.std.specs.Prelude.{◌≡◌, refl}
use Rattle.judge.specs.Search.{searched}
use Rattle.judge.specs.Judged.{judged}

pub judged_is : judged ≡ searched
unfolding judged
judged_is = refl
