use mathlib.Core.Path.{◌∙◌}
use Rattle.byte_calls.specs.Laws.Concluded.{by_done, by_refused}
use Rattle.byte_calls.proofs.conclude.Goals as goal

pub save-requires : goal.save-requires
save-requires c = (c.requires.store_long, c.requires.words_long, c.requires.within, c.requires.outside)

pub returns-in-Ok : goal.returns-in-Ok
returns-in-Ok c = by_done _ _ _ _ _ _ c.requires c.in-Ok.is (rw c.is_ok.ensures.value at c.keep_state.ensures) c.save.ensures c.put_values.ensures

pub returns-in-Err : goal.returns-in-Err
returns-in-Err c = by_refused _ c.args.words.now c.args.changed.state _ _ _ _ _ c.in-Err.is (rw c.is_ok.ensures.value at c.keep_state.ensures) (c.refuse.ensures.0 ∙ c.from.ensures) c.refuse.ensures.1
