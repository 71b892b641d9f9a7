use Rattle.layout.proofs.Arrays.{Loaded}
use Rattle.layout.proofs.parts.load_array.Given as goal

abbrev pub invariant-loop-i : goal.invariant-loop-i
invariant-loop-i g l = Loaded g.T.Part.layout g.T.Part.none g.row.N l.at l.bytes l.parts l.i
