-- A line answered, of whatever kind: the progress goes on by it.
use Rattle.std.specs.Prelude.{ℕ, ◌+◌, ◌-◌, ◌≤◌, ◌≡◌, refl, length, take, drop, Option}
use Rattle.std.proofs.Common.{ap, sym, ◌∙◌, arith}
use mathlib.Core.List.{List, [], foldl}
use Rattle.state.specs.declared.State.{State}
use Rattle.calls.specs.Step.{world, unchecked}
use Rattle.calls.specs.View.{World}
use Rattle.lines.specs.Grammar.{line_of}
use Rattle.lines.specs.Until.{until}
use Rattle.lines.specs.Reading.{Reading, reads}
use Rattle.lines.specs.declared.Line.{Line}
use Rattle.replies.specs.Reply.{Carrying, reply}
use Rattle.replies.specs.Told.{Told, told_on}
use Rattle.stream.specs.Run.{Progress, next_number}
use Rattle.stream.specs.Feed.{progress_at, held_bytes, held_byte}
use Rattle.stream.specs.Feeding.{Fed, fed_part, fed_line, at_feed}
use Rattle.stream.specs.Room.{shorter}

module _ (carry : Carrying) (more : List ℕ → ℕ → List ℕ) {a : Progress} {piece : List ℕ} {from end : ℕ} {w : World} {number : ℕ} (line out : List ℕ) (at : ℕ) where
  -- the piece is taken behind the line feed, and the line's answer stands in the buffer
  pub fed_told : {reading : Reading} {w' : World} {number' : ℕ} (out' : List ℕ) (at' : ℕ)
      → Fed carry more a piece from (record { world = w; number = number; line = line; text = take at out }) → end ≡ from + until 10 (drop from piece)
      → (end ≡ length piece → ⊥) → reading ≡ line_of (foldl more line (take (end - from) (drop from piece))) → number' ≡ next_number number
      → Told number out at out' at' w' (reply carry w reading) → at + 273 ≤ length out
      → Fed carry more a piece (end + 1) (record { world = w'; number = number'; line = []; text = take at' out' })
  fed_told {reading} out' at' f to ne e n t h =
      let p = fed_part carry more f to refl in
      let l = shorter ne p.bound in
      fed_line carry more p l (at_feed carry more f to l) (ap (reply carry w) (sym e)) n (told_on t h).text t.world

-- where the program stands at byte `from` of a piece, with a store of n words and a buffer of `size` bytes
pub record Stands (a : Progress) (piece : List ℕ) (n size : ℕ) (s : State) (words : List ℕ) (number : ℕ) (line : List ℕ) (held : ℕ) (out : List ℕ) (at from : ℕ) : Type 0 where
  pub fed : Fed unchecked held_byte a piece from (progress_at s words number line held out at)
  pub few : held ≤ held_bytes
  pub hold : length line ≡ held_bytes
  pub buffer : length out ≡ size
  pub store : length words ≡ n
  pub within : at ≤ length out

-- and behind a line that is answered there, of whatever kind
pub stands_told : {a : Progress} {piece : List ℕ} {n size : ℕ} {s : State} {words : List ℕ} {number : ℕ} {line : List ℕ} {held : ℕ} {out : List ℕ} {at from end : ℕ}
    {l : Option Line} {number' : ℕ} {line' : List ℕ} {s' : State} {words' out' : List ℕ} {at' : ℕ} (reading : Option Line) (plan : List ℕ)
    → Stands a piece n size s words number line held out at from → end ≡ from + until 10 (drop from piece) → (end ≡ length piece → ⊥)
    → reads reading plan ≡ line_of (foldl held_byte (take held line) (take (end - from) (drop from piece))) → number' ≡ next_number number → length line' ≡ length line
    → reading ≡ l → at + 273 ≤ length out → Told number out at out' at' (world s' words') (reply unchecked (world s words) (reads l plan))
    → length words' ≡ length words → length out' ≡ length out
    → Stands a piece n size s' words' number' line' 0 out' at' (end + 1)
stands_told {line = line} {held = held} {out = out} {at = at} {out' = out'} {at' = at'} reading plan v to ne e m k q h t w o =
    record {
      fed = fed_told unchecked held_byte (take held line) out at out' at' v.fed to ne (ap (λ (z : Option Line). reads z plan) (sym q) ∙ e) m t h;
      few = omega arith;
      hold = k ∙ v.hold;
      buffer = o ∙ v.buffer;
      store = w ∙ v.store;
      within = omega (arith, (told_on t h).within, o);
    }
