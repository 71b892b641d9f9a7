-- A piece of which the first bytes are answered.
use Rattle.std.specs.Prelude.{ℕ, ◌+◌, ◌-◌, ◌≡◌, refl, true, false, length, take, drop}
use Rattle.std.proofs.Common.{sym, ap, ◌∙◌, true≢false, take_all, length-drop, arith}
use Rattle.std.proofs.lemmas.List.{drop-drop}
use mathlib.Core.List.{List, foldl}
use Rattle.calls.specs.Step.{unchecked}
use Rattle.stream.specs.Feed.{progress_of, on_held, emptied, Leads}
use Rattle.stream.specs.Reached.{piece_leads}
use Rattle.stream.specs.declared.Feed.{Feed}
use Rattle.turns.specs.Led.{Begun}

-- they lead from one feed and store to another, and the rest of the piece is left
pub record Partway (f : Feed) (words p rest : List ℕ) (f' : Feed) (words' : List ℕ) : Type 0 where
  pub taken : ℕ
  pub left : rest ≡ drop taken p
  pub led : Leads f words (take taken p) f' words'

pub partway_none : {f : Feed} {words p : List ℕ} → Partway f words p p f words
partway_none = record { taken = 0; left = refl; led = refl }

-- and then those that are taken of the rest
pub partway_on : {f : Feed} {words p rest : List ℕ} {f' : Feed} {words' : List ℕ} (out : List ℕ) (f'' : Feed) (words'' out'' : List ℕ)
    → Partway f words p rest f' words'
    → progress_of f'' words'' out'' ≡ foldl (on_held unchecked) (progress_of (emptied f') words' out) (take f''.taken rest)
    → Partway f words p (drop f''.taken rest) f'' words''
partway_on {f} {words} {p} {rest} {f'} {words'} out f'' words'' out'' w e =
    let all : take (length p - w.taken) (drop w.taken p) ≡ drop w.taken p = take_all _ _ (omega (arith, length-drop w.taken p)) in
    record {
      taken = w.taken + f''.taken;
      left = ap (drop f''.taken) w.left ∙ drop-drop f''.taken w.taken p;
      led = piece_leads f words p w.taken f' words' out f'' words'' out'' w.led (rw all (rw w.left at e));
    }

pub begun_part : {f : Feed} {words p rest : List ℕ} {f' : Feed} {words' : List ℕ} → Partway f words p rest f' words' → Begun f words p f' words' false
begun_part w = record { taken = w.taken; led = w.led; all = λ e. absurd (true≢false (sym e)) }

-- where nothing is left, the piece is answered
pub begun_all : {f : Feed} {words p rest : List ℕ} {f' : Feed} {words' : List ℕ} → Partway f words p rest f' words' → length rest ≡ 0
    → Begun f words p f' words' true
begun_all {f} {words} {p} {rest} w e =
    record { taken = w.taken; led = w.led; all = λ _. take_all w.taken p (omega (arith, e, ap length w.left, length-drop w.taken p)) }
