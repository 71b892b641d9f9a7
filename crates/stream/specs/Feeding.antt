-- How the program takes a piece: up to a line feed at once, and then the line feed.
use Rattle.std.specs.Prelude.{ℕ, suc, ◌+◌, ◌-◌, ◌<◌, ◌≤◌, ◌≡◌, Bool, cond, length, take, drop, get_or}
use Rattle.std.proofs.Math.Path.{refl, ap}
use Rattle.std.proofs.Common.{◌∙◌, sym, arith, length-drop, take-add, get_or-drop}
use Rattle.std.proofs.Math.Bool.{true, false}
use mathlib.Core.List.{List, [], ◌∷◌, ◌++◌, foldl, foldl-append}
use Rattle.std.proofs.Math.Dec.{eqb}
use Rattle.bounded.specs.Folds.{fold_more}
use Rattle.calls.specs.View.{World}
use Rattle.lines.specs.Grammar.{line_of}
use Rattle.lines.specs.Until.{until, until_at, until_within}
use Rattle.text.specs.Answer.{answer_line}
use Rattle.replies.specs.Reply.{Carrying, Reply, reply}
use Rattle.stream.specs.Run.{Progress, next_number, line_done, with_line, on_byte_by}

-- the bytes before a line feed are more of the line
module _ (carry : Carrying) (more : List ℕ → ℕ → List ℕ) where
  pub before_feed : (s : List ℕ) (r : Progress)
      → foldl (on_byte_by carry more) r (take (until 10 s) s) ≡ with_line r (foldl more r.line (take (until 10 s) s))
  unfolding until on_byte_by
  before_feed [] r = refl
  before_feed (b ∷ s) r = go (eqb b 10) refl (before_feed s (with_line r (more r.line b)))
    where
      go : (t : Bool) → eqb b 10 ≡ t
          → foldl (on_byte_by carry more) (with_line r (more r.line b)) (take (until 10 s) s) ≡ with_line r (foldl more (more r.line b) (take (until 10 s) s))
          → foldl (on_byte_by carry more) r (take (cond t 0 (suc (until 10 s))) (b ∷ s)) ≡ with_line r (foldl more r.line (take (cond t 0 (suc (until 10 s))) (b ∷ s)))
      go true e ih = refl
      go false e ih =
          let q : on_byte_by carry more r b ≡ with_line r (more r.line b) = rw e in
          ap (λ (z : Progress). foldl (on_byte_by carry more) z (take (until 10 s) s)) q ∙ ih

  -- the progress r is what the first bytes of the piece make of the progress a
  pub record Fed (a : Progress) (piece : List ℕ) (from : ℕ) (r : Progress) : Type 0 where
    pub bound : from ≤ length piece
    pub done : r ≡ foldl (on_byte_by carry more) a (take from piece)

  module _ {a : Progress} {piece : List ℕ} where
    pub fed_none : Fed a piece 0 a
    fed_none = record { bound = omega arith; done = refl }

    module _ {from end : ℕ} {r : Progress} (f : Fed a piece from r) (to : end ≡ from + until 10 (drop from piece)) where
      -- up to a line feed, or to the end of the piece
      pub fed_part : {line : List ℕ} → line ≡ foldl more r.line (take (end - from) (drop from piece)) → Fed a piece end (with_line r line)
      fed_part {line} q =
          let k : end - from ≡ until 10 (drop from piece) = omega arith in
          let p : line ≡ foldl more r.line (take (until 10 (drop from piece)) (drop from piece)) = rw k at q in
          record {
            bound = omega (arith, f.bound, until_within 10 piece from to);
            done =
                ap (with_line r) p
                ∙ sym (before_feed (drop from piece) r)
                ∙ ap (λ (z : Progress). foldl (on_byte_by carry more) z (take (until 10 (drop from piece)) (drop from piece))) f.done
                ∙ sym (foldl-append (on_byte_by carry more) a (take from piece) (take (until 10 (drop from piece)) (drop from piece)))
                ∙ ap (λ (z : List ℕ). foldl (on_byte_by carry more) a z) (sym (take-add from (until 10 (drop from piece)) piece))
                ∙ ap (λ (z : ℕ). foldl (on_byte_by carry more) a (take z piece)) (sym to);
          }

      -- what stands there is a line feed
      pub at_feed : end < length piece → get_or piece end 0 ≡ 10
      at_feed h =
          let b = f.bound in
          let l : until 10 (drop from piece) < length (drop from piece) = omega (arith, length-drop from piece) in
          ap (λ (z : ℕ). get_or piece z 0) to ∙ sym (get_or-drop from piece (until 10 (drop from piece)) 0) ∙ until_at 10 (drop from piece) l

    -- a line feed more: the line is answered
    pub fed_line : {end : ℕ} {r : Progress} {answer : Reply} {world : World} {number : ℕ} {text : List ℕ} → Fed a piece end r → end < length piece → get_or piece end 0 ≡ 10
        → reply carry r.world (line_of r.line) ≡ answer → number ≡ next_number r.number
        → text ≡ r.text ++ answer_line r.number answer.number answer.values → world ≡ answer.world
        → Fed a piece (end + 1) (record { world = world; number = number; line = []; text = text })
    unfolding on_byte_by
    fed_line {end} {r} {answer} {world} {number} {text} f h b e n t w =
        let q : record { world = world; number = number; line = []; text = text } ≡ line_done r (reply carry r.world (line_of r.line)) = rw (e, n, t, w) in
        record {
          bound = omega arith;
          done =
              q ∙ ap (λ (z : Progress). on_byte_by carry more z 10) f.done
              ∙ ap (λ (z : ℕ). on_byte_by carry more (foldl (on_byte_by carry more) a (take end piece)) z) (sym b)
              ∙ fold_more (on_byte_by carry more) a piece end h;
        }
