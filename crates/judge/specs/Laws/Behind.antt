-- What stands behind the end of a list does not matter to the judgement: document 02, T-01.
use Rattle.std.specs.Prelude.{ℕ, ◌+◌, ◌*◌, ◌<◌, ◌≤◌, ◌≡◌, refl, true, List, length, get_or}
use Rattle.state.specs.Places.{slot_at}
use Rattle.state.specs.declared.Table.{Table}
use Rattle.state.specs.declared.Frame.{Frame}
use Rattle.clists.specs.Clist.{named, live, run_words}
use Rattle.clists.specs.Laws.Ends.{reach}
use Rattle.clists.specs.Laws.Lists.{list_same}
use Rattle.judge.specs.Judged.{judged}
use Rattle.judge.specs.Laws.Local.{lists_local}
use Rattle.judge.specs.declared.Target.{Target}

-- Two stores that differ only behind the ends of the Clists of a frame's live slots: up to and with the pair that
-- ends it, each has the same words.
pub record SameToEnds (t : Table) (words words' : List ℕ) (f : Frame) : Type 0 where
  pub long : length words ≡ length words'
  pub lists : (slot : ℕ) → slot < f.count → live t (slot_at f slot) ≡ true → (a : ℕ) → 64 * (slot_at f slot).page ≤ a
      → a < 64 * (slot_at f slot).page + reach (run_words words (slot_at f slot).page (named t (slot_at f slot)).pages) → get_or words a 0 ≡ get_or words' a 0

-- WHAT STANDS BEHIND THE ENDS DOES NOT MATTER: such stores are judged alike.
pub behind_ignored : (t : Table) (words words' : List ℕ) (f : Frame) (target : Target) (wanted : ℕ) → SameToEnds t words words' f
    → judged t words f target wanted ≡ judged t words' f target wanted
behind_ignored t words words' f target wanted m =
    lists_local t t words words' f target wanted refl
    (λ k l. list_same t t words words' f k m.long (λ n. record { alive = refl; pages = λ a. refl; content = m.lists k n })) (λ k i l b. refl)
