-- The state behind an input in which no boot is granted: document 02, T-05 and T-06.
use Rattle.std.specs.Prelude.{ℕ, ◌≡◌, refl, eqb, Ok, Err}
use mathlib.Core.List.{List, [], ◌∷◌, foldl}
use Rattle.std.proofs.Common.{eqb-true}
use Rattle.bounded.specs.Bools.{cond_ind}
use Rattle.state.specs.declared.State.{State}
use Rattle.calls.specs.Answers.{number_of}
use Rattle.calls.specs.View.{World}
use Rattle.calls.specs.Step.{step}
use Rattle.calls.specs.Boot.{boot}
use Rattle.calls.specs.Answers.{Answer}
use Rattle.runs.specs.Laws.Unbooted.{Unbooted, empty_unbooted, step_unbooted}
use Rattle.lines.specs.Grammar.{line_of}
use Rattle.lines.specs.Reading.{Reading, answered, boot_by, call_by}
use Rattle.replies.specs.Reply.{reply, state_after}
use Rattle.stream.specs.Run.{Progress, on_byte_by, on_byte, started}
use Rattle.ending.specs.Behind.{behind}

-- a line is a boot that is answered 0
abbrev pub Boots : World → Reading → Type 0
Boots w (answered number) = ⊥
Boots w (boot_by d plan) = number_of (boot w.words d plan).outcome.answer ≡ 0
Boots w (call_by d c) = ⊥

-- no line of these bytes is
abbrev pub NoBoot : Progress → List ℕ → Type 0
NoBoot r [] = Unit {0}
NoBoot r (b ∷ bs) = (b ≡ 10 → Boots r.world (line_of r.line) → ⊥) × NoBoot (on_byte r b) bs

refused_stays : (old : State) (answer : Answer) (new : State) → (number_of answer ≡ 0 → ⊥) → Unbooted old → Unbooted (state_after old answer new)
refused_stays old (Ok value) new n u = absurd (n refl)
refused_stays old (Err why) new n u = u

line_unbooted : (w : World) (r : Reading) → (Boots w r → ⊥) → Unbooted w.state → Unbooted (reply step w r).world.state
unfolding reply
line_unbooted w (answered number) n u = u
line_unbooted w (boot_by d plan) n u = refused_stays w.state (boot w.words d plan).outcome.answer (boot w.words d plan).outcome.state n u
line_unbooted w (call_by d c) n u = step_unbooted w (record { domain = d; call = c }) u

bytes_unbooted : (bs : List ℕ) (r : Progress) → NoBoot r bs → Unbooted r.world.state → Unbooted (foldl on_byte r bs).world.state
unfolding on_byte_by
bytes_unbooted [] r n u = u
bytes_unbooted (b ∷ bs) r n u =
    bytes_unbooted bs (on_byte r b) n.1
    (cond_ind (λ (z : Progress). Unbooted z.world.state) (eqb b 10) _ _ (λ e. line_unbooted r.world (line_of r.line) (n.0 (eqb-true b 10 e)) u) (λ e. u))

-- BEFORE A BOOT nothing stands on any account, and no object stands
pub unbooted_behind : (input : List ℕ) → NoBoot started input → Unbooted (behind input).state
unfolding behind started
unbooted_behind input n = bytes_unbooted input started n empty_unbooted
