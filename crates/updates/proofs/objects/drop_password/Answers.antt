use Rattle.std.proofs.Common.{eq-eqb, ne_eqb}
use Rattle.state.specs.Update.{drop_password}
use Rattle.updates.proofs.objects.drop_password.Goals as goal

pub returns-then-word-eq0 : goal.returns-then-word-eq0
unfolding drop_password
returns-then-word-eq0 c = rw (eq-eqb _ _ c.if-word-eq0.true)

pub returns-then-g-word : goal.returns-then-g-word
unfolding drop_password
returns-then-g-word c = rw (ne_eqb _ _ c.if-word-eq0.false, eq-eqb _ _ c.if-g-word.true) (cc)

pub returns : goal.returns
unfolding drop_password
returns c = rw (ne_eqb _ _ c.if-word-eq0.false, ne_eqb _ _ c.if-g-word.false) (cc)
