use Prim.Native.Nat.{ℕ, ◌+◌, ◌*◌}
use mathlib.Core.Path.{◌≡◌, refl}
use mathlib.Core.Bool.{Bool, true, false, cond}
use mathlib.Core.List.{List, []}
use lib.Dec.{leb}
use lib.ListN.{length}
use Rattle.bounded.specs.Bools.{cond_same}
use Rattle.state.specs.declared.Capability.{Capability}
use Rattle.state.specs.declared.Table.{Table}
use Rattle.clists.specs.Clist.{named, live, run_words, until_end, clist}
use Rattle.clists.specs.Laws.Live.{live_base}
use Rattle.clists.specs.Laws.Ends.{until_none}
use Rattle.judge.proofs.slot_verdict.Goals as goal

-- the words of the pages that a capability opens are those of the Clist that it names, where it is live
opened_list : (t : Table) (words : List ℕ) (c : Capability) (n : ℕ) → n ≡ cond (live t c) (named t c).pages 0
    → until_end (run_words words c.page n) ≡ cond (live t c) (clist words (named t c)) []
unfolding clist
opened_list t words c n = go (live t c) refl
  where
    go : (b : Bool) → live t c ≡ b → n ≡ cond b (named t c).pages 0
        → until_end (run_words words c.page n) ≡ cond b (clist words (named t c)) []
    go true h e = rw (e, live_base t c h)
    go false h e = rw (e, cond_same {A = List ℕ} (leb (64 * (c.page + 0)) (length words)) [], until_none)

pub returns : goal.returns
returns c = rw (← opened_list _ _ _ _ c.opened.ensures, ← c.clist.ensures) c.list_verdict.ensures
