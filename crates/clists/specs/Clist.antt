-- Clists and live capabilities: document 01, "Rights and capabilities", and "How an access is judged", rule 1; document 02, T-01.
use Rattle.std.specs.Prelude.{ℕ, ◌+◌, ◌*◌, ◌/◌, Bool, cond, ◌&&◌, List, [], leb, ltb, eqb, length, take, drop, get_or}
use Rattle.bounded.specs.Search.{first}
use Rattle.rights.specs.Modes.{read, grants}
use Rattle.state.specs.Places.{slot_at}
use Rattle.state.specs.Lookup.{object_based, ordinary_mode}
use Rattle.state.specs.declared.Capability.{Capability}
use Rattle.state.specs.declared.Object.{Object}
use Rattle.state.specs.declared.Table.{Table}
use Rattle.state.specs.declared.Frame.{Frame}

-- the object that a capability names by its page
abbrev pub named : Table → Capability → Object
named t c = object_based t c.page

-- rule 1: a capability is live where it shows an ordinary password, positive and with R, of the object that it names
unfoldable pub live : Table → Capability → Bool
live t c = grants (ordinary_mode (named t c) c.password) read

-- the words of a run of pages; none where the store is too short for it
abbrev pub run_words : List ℕ → ℕ → ℕ → List ℕ
run_words words base pages = cond (leb (64 * (base + pages)) (length words)) (take (64 * pages) (drop (64 * base) words)) []

-- both words of pair i are zero
abbrev pub zero_pair : List ℕ → ℕ → Bool
zero_pair run i = eqb (get_or run (2 * i) 0) 0 && eqb (get_or run (2 * i + 1) 0) 0

-- document 02, T-01: how many pairs of a run stand before the first whose two words are both zero; all of them where there is none
unfoldable pub list_end : List ℕ → ℕ
list_end run = first (zero_pair run) (λ i. i) (length run / 2) 0 (length run / 2)

-- the words of these pairs
unfoldable pub until_end : List ℕ → List ℕ
until_end run = take (2 * list_end run) run

-- an object as a Clist: the words of its run up to the end of the list
unfoldable pub clist : List ℕ → Object → List ℕ
clist words o = until_end (run_words words o.base o.pages)

-- the words of the Clist at slot k; none where the slot is unused or not live
unfoldable pub list_at : Table → List ℕ → Frame → ℕ → List ℕ
list_at t words f k = cond (ltb k f.count && live t (slot_at f k)) (clist words (named t (slot_at f k))) []
