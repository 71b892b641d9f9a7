-- Lists of calls, by any domains and with any arguments: document 01, "Two runs and a group". A boot is not among them.
use Rattle.std.specs.Prelude.{ℕ, List, [], ◌∷◌}
use Rattle.calls.specs.View.{World}
use Rattle.calls.specs.Step.{Result, step, world_of}
use Rattle.calls.specs.declared.Call.{Call}

-- a call by a domain
pub record Event : Type 0 where
  pub domain : ℕ
  pub call : Call

-- a call works on the world that the one before it left
abbrev pub result_of : World → Event → Result
result_of w e = step w e.domain e.call

unfoldable pub final : World → List Event → World
final w [] = w
final w (e ∷ es) = final (world_of (result_of w e)) es
