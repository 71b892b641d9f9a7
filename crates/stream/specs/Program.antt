-- What the program writes, holding the first bytes of a line and leaving out check 3, is what document 01 says.
use Rattle.std.specs.Prelude.{ℕ, ◌≡◌, refl, Bool, cond, eqb, Ok, Err}
use Rattle.std.proofs.Common.{◌∙◌, sym, ap}
use Rattle.std.proofs.Math.Bool.{true, false}
use mathlib.Core.List.{List, [], ◌∷◌, ◌++◌, foldl}
use Rattle.soundness.specs.Sound.{sound}
use Rattle.soundness.specs.Laws.Estates.{empty_sound}
use Rattle.calls.specs.View.{World}
use Rattle.calls.specs.Step.{step, unchecked}
use Rattle.calls.specs.Boot.{boot}
use Rattle.calls.specs.Laws.Unchecked.{sound_unchecked}
use Rattle.calls.proofs.Sound.{step_sound}
use Rattle.calls.specs.Laws.Booted.{boot_sound}
use Rattle.calls.specs.Answers.{Answer}
use Rattle.lines.specs.Grammar.{line_of}
use Rattle.lines.specs.Reading.{Reading, answered, boot_by, call_by}
use Rattle.replies.specs.Reply.{called, reply, state_after}
use Rattle.stream.specs.Run.{Progress, line_done, with_line, on_byte_by, extended, on_byte, header, started, last_line, output}
use Rattle.stream.specs.Feed.{held_byte, on_held, cut, joined}
use Rattle.stream.specs.Held.{cut_run, cut_last}
use Rattle.stream.specs.Pieces.{written_for, pieces_whole}

-- on a sound state a line is answered the same without check 3
reply_unchecked : (w : World) (l : Reading) → sound w.state ≡ true → reply unchecked w l ≡ reply step w l
unfolding reply
reply_unchecked w (answered number) h = refl
reply_unchecked w (boot_by d plan) h = refl
reply_unchecked w (call_by d c) h = ap called (sym (sound_unchecked w d c h))

-- and leaves a sound state
reply_sound : (w : World) (l : Reading) → sound w.state ≡ true → sound (reply step w l).world.state ≡ true
unfolding reply
reply_sound w (answered number) h = h
reply_sound w (boot_by d plan) h = go (boot w.words d plan).outcome.answer
  where
    go : (a : Answer) → sound (state_after w.state a (boot w.words d plan).outcome.state) ≡ true
    go (Ok v) = boot_sound w.words d plan
    go (Err why) = h
reply_sound w (call_by d c) h = step_sound w d c h

module _ (more : List ℕ → ℕ → List ℕ) where
  byte_unchecked : (r : Progress) (b : ℕ) → sound r.world.state ≡ true → on_byte_by unchecked more r b ≡ on_byte_by step more r b
  unfolding on_byte_by
  byte_unchecked r b h = rw (reply_unchecked r.world (line_of r.line) h)

  byte_sound : (r : Progress) (b : ℕ) → sound r.world.state ≡ true → sound (on_byte_by step more r b).world.state ≡ true
  unfolding on_byte_by
  byte_sound r b h = go (eqb b 10)
    where
      go : (t : Bool) → sound (cond t (line_done r (reply step r.world (line_of r.line))) (with_line r (more r.line b))).world.state ≡ true
      go true = reply_sound r.world (line_of r.line) h
      go false = h

  -- check 3 may be left out from a sound state on
  pub run_unchecked : (s : List ℕ) (r : Progress) → sound r.world.state ≡ true → foldl (on_byte_by unchecked more) r s ≡ foldl (on_byte_by step more) r s
  run_unchecked [] r h = refl
  run_unchecked (b ∷ s) r h =
      ap (λ (z : Progress). foldl (on_byte_by unchecked more) z s) (byte_unchecked r b h) ∙ run_unchecked s (on_byte_by step more r b) (byte_sound r b h)

  run_sound : (s : List ℕ) (r : Progress) → sound r.world.state ≡ true → sound (foldl (on_byte_by step more) r s).world.state ≡ true
  run_sound [] r h = h
  run_sound (b ∷ s) r h = run_sound s (on_byte_by step more r b) (byte_sound r b h)

started_sound : sound started.world.state ≡ true
unfolding started
started_sound = empty_sound

-- THE STATE BEHIND ANY INPUT IS SOUND
pub input_sound : (s : List ℕ) → sound (foldl on_byte started s).world.state ≡ true
input_sound s = run_sound extended s started started_sound

started_cut : cut started ≡ started
unfolding started
started_cut = refl

-- the run of the program, each line cut at the bytes that are held and without check 3
program_run : (s : List ℕ) → foldl (on_held unchecked) started s ≡ cut (foldl (on_byte_by step extended) started s)
program_run s =
    ap (λ (z : Progress). foldl (on_held unchecked) z s) (sym started_cut)
    ∙ cut_run unchecked s started
    ∙ ap cut (run_unchecked extended s started started_sound)

started_text : started.text ≡ header
unfolding started
started_text = refl

-- WHAT THE PROGRAM WRITES FOR ANY PIECES OF AN INPUT: the header, what each piece is answered, and at the end the last line
pub program_writes : (ps : List (List ℕ)) → header ++ written_for unchecked held_byte started ps ≡ output (joined ps)
unfolding output
program_writes ps =
    ap (λ (z : List ℕ). z ++ written_for unchecked held_byte started ps) (sym started_text)
    ∙ pieces_whole unchecked held_byte ps started
    ∙ ap (λ (z : Progress). z.text ++ last_line z) (program_run (joined ps))
    ∙ ap (λ (z : List ℕ). (foldl (on_byte_by step extended) started (joined ps)).text ++ z) (cut_last (foldl (on_byte_by step extended) started (joined ps)))
