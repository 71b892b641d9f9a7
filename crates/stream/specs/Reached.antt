-- Where the program stands between two rounds: what does not depend on the buffer, and which input leads there.
use Rattle.std.specs.Prelude.{ℕ, ◌+◌, ◌-◌, ◌≡◌, refl, length, take, drop, replicate}
use Rattle.std.proofs.Common.{◌∙◌, sym, ap, take-add}
use mathlib.Core.List.{List, [], ◌++◌, foldl, foldl-append}
use Rattle.bounded.specs.Folds.{rest_all}
use Rattle.soundness.specs.Laws.Estates.{empty_sound}
use Rattle.calls.specs.Step.{world, unchecked}
use Rattle.stream.specs.Run.{Progress, extended, on_byte, started}
use Rattle.stream.specs.Held.{cut_run}
use Rattle.stream.specs.Pieces.{flushed_run}
use Rattle.stream.specs.Program.{run_unchecked}
use Rattle.stream.specs.Feed.{start_feed, progress_of, held_byte, on_held, cut, flushed, emptied, standing, Leads, Reached}
use Rattle.stream.specs.declared.Feed.{Feed}

-- bytes that are taken from an empty buffer on
pub taken_leads : (f : Feed) (words out s : List ℕ) (f' : Feed) (words' out' : List ℕ)
    → progress_of f' words' out' ≡ foldl (on_held unchecked) (progress_of (emptied f) words out) s → Leads f words s f' words'
taken_leads f words out s f' words' out' e = ap flushed e

-- some bytes, and then others
pub leads_on : (f : Feed) (words s : List ℕ) (f' : Feed) (words' t : List ℕ) (f'' : Feed) (words'' : List ℕ) → Leads f words s f' words' → Leads f' words' t f'' words''
    → Leads f words (s ++ t) f'' words''
leads_on f words s f' words' t f'' words'' a b =
    b ∙ ap (λ (z : Progress). flushed (foldl (on_held unchecked) z t)) a
    ∙ sym (flushed_run unchecked held_byte (foldl (on_held unchecked) (standing f words) s) t)
    ∙ ap flushed (sym (foldl-append (on_held unchecked) (standing f words) s t))

-- the first bytes of a piece, and then those that are taken of its rest
pub piece_leads : (f : Feed) (words piece : List ℕ) (from : ℕ) (f' : Feed) (words' out : List ℕ) (f'' : Feed) (words'' out'' : List ℕ) → Leads f words (take from piece) f' words'
    → progress_of f'' words'' out'' ≡ foldl (on_held unchecked) (progress_of (emptied f') words' out) (take f''.taken (take (length piece - from) (drop from piece)))
    → Leads f words (take (from + f''.taken) piece) f'' words''
piece_leads f words piece from f' words' out f'' words'' out'' a e =
    let s : List ℕ = take f''.taken (drop from piece) in
    let l : Leads f' words' s f'' words'' = taken_leads f' words' out s f'' words'' out'' (rw rest_all at e) in
    leads_on f words (take from piece) f' words' s f'' words'' a l
    ∙ ap (λ (z : List ℕ). flushed (foldl (on_held unchecked) (standing f words) z)) (sym (take-add from f''.taken piece))

pub reached_none : (words : List ℕ) → Reached words start_feed words
reached_none words = record { input = []; led = refl }

pub reached_on : (words : List ℕ) (f : Feed) (words' t : List ℕ) (f' : Feed) (words'' : List ℕ) → Reached words f words' → Leads f words' t f' words'' → Reached words f' words''
reached_on words f words' t f' words'' r l = record { input = r.input ++ t; led = leads_on start_feed words r.input f words' t f' words'' r.led l }

-- from a store of zeros: the program stands where document 01's run stands behind that input, with the bytes of its line that are held
pub reached_run : (f : Feed) (words : List ℕ) (r : Reached (replicate 8192 0) f words) → standing f words ≡ flushed (cut (foldl on_byte started r.input))
unfolding started
reached_run f words r =
    r.led
    ∙ sym (flushed_run unchecked held_byte started r.input)
    ∙ ap flushed (cut_run unchecked r.input started ∙ ap cut (run_unchecked extended r.input started empty_sound))

-- STATE AND STORE OF A FEED that some input leads to: those behind that input by document 01
pub reached_world : (f : Feed) (words : List ℕ) (r : Reached (replicate 8192 0) f words) → world f.state words ≡ (foldl on_byte started r.input).world
reached_world f words r = ap (λ (z : Progress). z.world) (reached_run f words r)
