use Rattle.std.proofs.Common.{◌+◌, ◌*◌, ◌≤◌, take}
use Rattle.text.specs.Grown.{Grown}
use Rattle.text.specs.Answer.{fields_text}
use Rattle.text.proofs.cursor.Cursor.put_line.Given as goal

abbrev pub invariant-loop-v : goal.invariant-loop-v
invariant-loop-v l = record { grown : Grown l.initial.self (fields_text (take l.v-index l.values)) l.self; bound : l.self.at ≤ l.initial.self.at + 21 * l.v-index }
