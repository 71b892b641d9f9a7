-- Pieces of an input, one after the other, and where they lead.
use Rattle.std.specs.Prelude.{ℕ, ◌≡◌, refl, Bool, true, take, replicate}
use mathlib.Core.List.{List, [], ◌∷◌, foldl}
use Rattle.calls.specs.Step.{world}
use Rattle.stream.specs.Run.{on_byte, started}
use Rattle.stream.specs.Feed.{start_feed, joined, Leads, Reached}
use Rattle.stream.specs.Reached.{leads_on, reached_on, reached_world}
use Rattle.stream.specs.declared.Feed.{Feed}

-- the first bytes of a piece lead from one feed and store to another: all of them where their answers were written
pub record Begun (f : Feed) (words p : List ℕ) (f' : Feed) (words' : List ℕ) (written : Bool) : Type 0 where
  pub taken : ℕ
  pub led : Leads f words (take taken p) f' words'
  pub all : written ≡ true → take taken p ≡ p

-- what some input leads to, and then the first bytes of a piece
pub reached_begun : {words : List ℕ} {f : Feed} {words' p : List ℕ} {f' : Feed} {words'' : List ℕ} {written : Bool} → Reached words f words'
    → Begun f words' p f' words'' written → Reached words f' words''
reached_begun {words} {f} {words'} {p} {f'} {words''} r b = reached_on words f words' (take b.taken p) f' words'' r b.led

-- pieces lead from one feed and store to another, each from where the one before it leads
pub data Led : Feed → List ℕ → List (List ℕ) → Feed → List ℕ → Type 0 where
  none : (f : Feed) (words : List ℕ) → Led f words [] f words
  piece : (f : Feed) (words p : List ℕ) (f' : Feed) (words' : List ℕ) (ps : List (List ℕ)) (f'' : Feed) (words'' : List ℕ)
      → Leads f words p f' words' → Led f' words' ps f'' words'' → Led f words (p ∷ ps) f'' words''

-- and so does the input that they make, wherever it is cut
pub led_joined : (f : Feed) (words : List ℕ) (ps : List (List ℕ)) (f' : Feed) (words' : List ℕ) → Led f words ps f' words' → Leads f words (joined ps) f' words'
led_joined _ _ _ _ _ (none f words) = refl
led_joined _ _ _ _ _ (piece f words p f' words' ps f'' words'' a l) = leads_on f words p f' words' (joined ps) f'' words'' a (led_joined f' words' ps f'' words'' l)

-- from a store of zeros, state and store are those of document 01's run behind the input
pub led_world : (ps : List (List ℕ)) (f : Feed) (words : List ℕ) → Led start_feed (replicate 8192 0) ps f words → world f.state words ≡ (foldl on_byte started (joined ps)).world
led_world ps f words l = reached_world f words (record { input = joined ps; led = led_joined start_feed (replicate 8192 0) ps f words l })
