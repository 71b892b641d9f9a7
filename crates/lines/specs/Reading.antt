-- What a line reads as, and how the code says it: as a line or none, beside an array for the numbers of a boot.
use Rattle.std.specs.Prelude.{ℕ, ◌≡◌, List, Option, Some, None}
use Rattle.calls.specs.declared.Call.{Call}
use Rattle.lines.specs.declared.Line.{Line}
use Rattle.lines.specs.declared.Line.TheVariants as line

-- the number that answers it at once, a boot by a domain with its numbers, or a call by a domain
pub data Reading : Type 0 where
  answered : ℕ → Reading
  boot_by : ℕ → List ℕ → Reading
  call_by : ℕ → Call → Reading

-- a line that is not readable is answered by 1: document 01, "In checking order", 1
abbrev pub unreadable : Reading
unreadable = answered 1

-- a line of the code, beside the numbers of its plan
abbrev pub reads : Option Line → List ℕ → Reading
reads None plan = unreadable
reads (Some (line.Boot d)) plan = boot_by d plan
reads (Some (line.Call d c)) plan = call_by d c

-- the plan behind a line: the numbers of a boot, and as it was behind any other line
abbrev pub plan_after : Reading → List ℕ → List ℕ
plan_after (answered n) plan = plan
plan_after (boot_by d numbers) plan = numbers
plan_after (call_by d c) plan = plan

-- a line of the code, with its plan before and after, is this reading
abbrev pub ReadAs : Option Line → List ℕ → List ℕ → Reading → Type 0
ReadAs l before plan r = (reads l plan ≡ r) × (plan ≡ plan_after r before)

-- a line with the plan as it was, and a boot whose numbers are put there
pub plan_kept : (l : Option Line) (plan : List ℕ) {r : Reading} → reads l plan ≡ r → ReadAs l plan plan r
plan_kept None plan e = (e, rw (← e))
plan_kept (Some (line.Boot d)) plan e = (e, rw (← e))
plan_kept (Some (line.Call d c)) plan e = (e, rw (← e))

pub plan_filled : (d : ℕ) (before : List ℕ) {plan : List ℕ} {r : Reading} → boot_by d plan ≡ r → ReadAs (Some (line.Boot d)) before plan r
plan_filled d before e = (e, rw (← e))

-- whatever the plan holds
abbrev pub Whatever : Option Line → Reading → Type 0
Whatever l r = (plan : List ℕ) → reads l plan ≡ r

-- a call of the code, asked for by a domain; a line with none is not readable
abbrev pub asked : ℕ → Option Call → Reading
asked d None = unreadable
asked d (Some c) = call_by d c
