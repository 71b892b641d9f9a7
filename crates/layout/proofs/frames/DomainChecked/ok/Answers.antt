use Rattle.std.proofs.Common.{drop-drop, add_assoc}
use mathlib.Core.Bool.{and-true}
use Rattle.codec.specs.Number.{byte}
use Rattle.layout.specs.Layout.{saved, domain}
use Rattle.layout.proofs.frames.DomainChecked.ok.Goals as goal

pub returns-then-ok : goal.returns-then-ok
unfolding byte saved domain
returns-then-ok c = rw (c.array_ok.ensures, ← c.ok.ensures, c.if-ok.true) (simp (drop-drop, add_assoc, and-true))

pub returns-else-ok : goal.returns-else-ok
unfolding byte saved domain
returns-else-ok c = rw (← c.ok.ensures, c.if-ok.false)
