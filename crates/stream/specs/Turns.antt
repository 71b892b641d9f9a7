-- The program from start to finish: its functions, called one after the other, write what document 01 says.
use Rattle.std.specs.Prelude.{ℕ, ◌≤◌, ◌≡◌, refl, List, [], ◌∷◌, ◌++◌, Bool, true, false, cond, length, take, replicate, eqb}
use Rattle.std.proofs.Common.{◌∙◌, ap, arith, length-take, eq-eqb, ne_eqb, eqb-true}
use Rattle.std.proofs.lemmas.Bool.{eqb-false}
use Rattle.calls.specs.Step.{unchecked}
use Rattle.text.specs.Answer.{answer_line, printed, printed_end}
use Rattle.stream.specs.Run.{Progress, header, started, last_line, output}
use Rattle.stream.specs.Pieces.{written_for, written_flushed}
use Rattle.stream.specs.Program.{program_writes}
use Rattle.stream.specs.Feed.{start_feed, progress_of, finished_text, finished_end, held_bytes, held_byte, flushed, joined, Turns, finish, turn}
use Rattle.replies.specs.Told.{told_text}
use Rattle.stream.specs.declared.Feed.{Feed}

-- the program starts where the definition does, with the header written
pub start_progress : (out : List ℕ) → progress_of start_feed (replicate 8192 0) out ≡ flushed started
unfolding started
start_progress out = refl

-- and writes the last line as it does
pub finish_writes : (f : Feed) (words out : List ℕ) → length f.line ≡ held_bytes → 273 ≤ length out
    → take (finished_end f out) (finished_text f out) ≡ last_line (progress_of f words out)
unfolding last_line
finish_writes f words out l h = go (eqb f.held 0) refl
  where
    go : (b : Bool) → eqb f.held 0 ≡ b
        → take (cond b 0 (printed_end out 0 f.number 1 (0 ∷ []))) (cond b out (printed out 0 f.number 1 (0 ∷ [])))
        ≡ cond (eqb (length (take f.held f.line)) 0) [] (answer_line f.number 1 (0 ∷ []))
    go true e =
        let z : f.held ≡ 0 = eqb-true _ _ e in
        let n : length (take f.held f.line) ≡ 0 = omega (arith, length-take f.held f.line) in
        rw (eq-eqb _ _ n)
    go false e =
        let z : f.held ≡ 0 → ⊥ = eqb-false _ _ e in
        let n : length (take f.held f.line) ≡ 0 → ⊥ = (λ m. z (omega (arith, m, length-take f.held f.line))) in
        rw (ne_eqb _ _ n) (told_text out 0 f.number 1 (0 ∷ []) h (omega arith) refl refl)

turns_write : (f : Feed) (words out : List ℕ) (ps : List (List ℕ)) (t : List ℕ) → Turns f words ps t → t ≡ written_for unchecked held_byte (progress_of f words out) ps
unfolding last_line
turns_write _ _ out _ _ (finish f words out₁ l h) = finish_writes f words out₁ l h
turns_write _ _ out _ _ (turn f words out₁ p f' words' out' ps' t' e n) =
    ap (λ (z : List ℕ). take f'.at out' ++ z) (turns_write f' words' out' ps' t' n)
    ∙ ap (λ (z : Progress). z.text ++ written_for unchecked held_byte z ps') e

-- WHAT THE PROGRAM WRITES: the header, and what the turns from the start on write, for any pieces of an input
pub turns_output : (ps : List (List ℕ)) (t : List ℕ) → Turns start_feed (replicate 8192 0) ps t → header ++ t ≡ output (joined ps)
turns_output ps t n =
    ap (λ (z : List ℕ). header ++ z) (turns_write start_feed (replicate 8192 0) [] ps t n ∙ ap (λ (z : Progress). written_for unchecked held_byte z ps) (start_progress []))
    ∙ ap (λ (z : List ℕ). header ++ z) (written_flushed unchecked held_byte started ps)
    ∙ program_writes ps
