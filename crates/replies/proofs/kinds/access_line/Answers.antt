use Rattle.replies.specs.Kinds.{access_told}
use Rattle.replies.proofs.kinds.access_line.Goals as goal

pub returns : goal.returns
returns c = let p = rw (c.answer_value.ensures, c.answer_number.ensures) at c.put_line.ensures in
    access_told _ _ _ c.access-a.result _ _ _ _ _ c.access-a.ensures p.0 p.1
