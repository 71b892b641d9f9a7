-- What is written piece by piece is what is written for the whole input, wherever it is cut.
use Rattle.std.specs.Prelude.{ℕ, ◌≡◌, Bool, eqb}
use Rattle.std.proofs.Math.Path.{refl}
use Rattle.std.proofs.Common.{◌∙◌, sym, ap}
use Rattle.std.proofs.Math.Bool.{true, false, cond}
use mathlib.Core.List.{List, [], ◌∷◌, ◌++◌, foldl, foldl-append, append_assoc, append-nil}
use Rattle.lines.specs.Grammar.{line_of}
use Rattle.replies.specs.Reply.{Carrying, reply}
use Rattle.stream.specs.Run.{Progress, line_done, with_line, on_byte_by, last_line}
use Rattle.stream.specs.Feed.{flushed, joined}

-- the same run behind a text
abbrev pub behind : List ℕ → Progress → Progress
behind t r = record { world = r.world; number = r.number; line = r.line; text = t ++ r.text }

last_behind : (t : List ℕ) (r : Progress) → last_line (behind t r) ≡ last_line r
unfolding last_line
last_behind t r = refl

last_flushed : (r : Progress) → last_line (flushed r) ≡ last_line r
unfolding last_line
last_flushed r = refl

module _ (carry : Carrying) (more : List ℕ → ℕ → List ℕ) where
  abbrev running : Progress → List ℕ → Progress
  running = foldl (on_byte_by carry more)

  byte_behind : (t : List ℕ) (r : Progress) (b : ℕ) → on_byte_by carry more (behind t r) b ≡ behind t (on_byte_by carry more r b)
  unfolding on_byte_by
  byte_behind t r b = go (eqb b 10)
    where
      go : (c : Bool) → cond c (line_done (behind t r) (reply carry r.world (line_of r.line))) (with_line (behind t r) (more r.line b))
          ≡ behind t (cond c (line_done r (reply carry r.world (line_of r.line))) (with_line r (more r.line b)))
      go true = rw append_assoc
      go false = refl

  run_behind : (t s : List ℕ) (r : Progress) → running (behind t r) s ≡ behind t (running r s)
  run_behind t [] r = refl
  run_behind t (b ∷ s) r = ap (λ (z : Progress). running z s) (byte_behind t r b) ∙ run_behind t s (on_byte_by carry more r b)

  -- from a progress with a text: the text, and behind it what is written from there with nothing written yet
  run_flushed : (r : Progress) (s : List ℕ) → running r s ≡ behind r.text (running (flushed r) s)
  run_flushed r s = ap (λ (z : List ℕ). running (record { world = r.world; number = r.number; line = r.line; text = z }) s) (sym (append-nil r.text)) ∙ run_behind r.text s (flushed r)

  -- what was written before does not matter to where a run stands
  pub flushed_run : (r : Progress) (s : List ℕ) → flushed (running r s) ≡ flushed (running (flushed r) s)
  flushed_run r s = ap flushed (run_flushed r s)

  -- what is written for pieces one after the other, each into an empty buffer, and at the end
  abbrev pub written_for : Progress → List (List ℕ) → List ℕ
  written_for r [] = last_line r
  written_for r (p ∷ ps) = (running (flushed r) p).text ++ written_for (running (flushed r) p) ps

  -- what is written for a whole input
  abbrev pub whole_of : Progress → List ℕ → List ℕ
  whole_of r s = (running r s).text ++ last_line (running r s)

  written_behind : (t : List ℕ) (r : Progress) (ps : List (List ℕ)) → written_for (behind t r) ps ≡ written_for r ps
  written_behind t r [] = last_behind t r
  written_behind t r (p ∷ ps) = refl

  -- what was written before does not matter
  pub written_flushed : (r : Progress) (ps : List (List ℕ)) → written_for (flushed r) ps ≡ written_for r ps
  written_flushed r [] = last_flushed r
  written_flushed r (p ∷ ps) = refl

  -- WHEREVER THE INPUT IS CUT
  pub pieces_whole : (ps : List (List ℕ)) (r : Progress) → r.text ++ written_for r ps ≡ whole_of r (joined ps)
  pieces_whole [] r = refl
  pieces_whole (p ∷ ps) r =
      let q : Progress = running (flushed r) p in
      let e : running r p ≡ behind r.text q = run_flushed r p in
      sym (append_assoc r.text q.text (written_for q ps))
      ∙ ap (λ (z : List ℕ). (r.text ++ q.text) ++ z) (sym (written_behind r.text q ps))
      ∙ pieces_whole ps (behind r.text q)
      ∙ ap (λ (z : Progress). whole_of z (joined ps)) (sym e)
      ∙ ap (λ (z : Progress). z.text ++ last_line z) (sym (foldl-append (on_byte_by carry more) r p (joined ps)))
