-- What `refused_changes_nothing` (calls) is for a C call, byte for byte; the values are cleared: document 02, T-02.
use Rattle.std.specs.Prelude.{ℕ, ◌≡◌, refl, Bool, true, false, cond, ◌&&◌, List, eqb, length, Ok, Err}
use Rattle.calls.specs.Step.{Result}
use Rattle.calls.specs.Answers.{Answer}
use Rattle.calls.specs.declared.Call.{Call}
use Rattle.slices.specs.Slices.{cleared}
use Rattle.byte_calls.specs.Called.{Slices, slices, Told, refused_by, answered_as, told_by, checked_by, called, booted}

-- nothing but the values is touched
abbrev pub Left : Slices → Told → Type 0
Left s t = (t.number ≡ 0 → ⊥) → t.after ≡ slices s.image s.store (cleared s.values)

answer_leaves : (s : Slices) (r : Result) (a : Answer) → Left s (answered_as a s r.outcome r.words)
answer_leaves s r (Ok value) h = absurd (h refl)
answer_leaves s r (Err why) h = refl

checked_leaves : (serves : Bool) (s : Slices) (r : Result) → Left s (checked_by serves s r)
unfolding checked_by
checked_leaves serves s r = go (eqb (length s.store) 65536) (eqb (length s.values) 88 && serves)
  where
    go : (x y : Bool) → Left s (cond x (cond y (told_by s r.outcome r.words) (refused_by 13 s)) (refused_by 2 s))
    go true true h = answer_leaves s r r.outcome.answer h
    go true false h = refl
    go false y h = refl

-- `refused_changes_nothing` THROUGH C
pub refused_leaves : (s : Slices) (d : ℕ) (c : Call) → Left s (called s d c)
unfolding called
refused_leaves s d c = checked_leaves _ s _

-- and so a refused BT
pub refused_boot_leaves : (s : Slices) (d : ℕ) (plan : List ℕ) → Left s (booted s d plan)
unfolding booted
refused_boot_leaves s d plan = checked_leaves _ s _
