use Rattle.std.proofs.Common.{get_or}
use Rattle.codec.specs.Loop.{Laying}
use Rattle.layout.proofs.parts.store_array.Given as goal

abbrev pub invariant-loop-i : goal.invariant-loop-i
invariant-loop-i g l = Laying g.T.Part.layout (λ j. get_or l.parts j g.T.Part.none) g.row.N l.initial.bytes l.at l.bytes l.i
