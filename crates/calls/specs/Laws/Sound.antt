-- Words that are zeroed leave the store as long as it is; that every call does, and keeps a sound state sound, is in proofs/Sound.antt.
use Rattle.std.specs.Prelude.{ℕ, ◌+◌, ◌≤◌, ◌≡◌, List, length}
use Rattle.std.proofs.Common.{arith, length-append, length-take, length-drop}
use Rattle.std.proofs.lemmas.List.{length-replicate}
use Rattle.calls.specs.Changes.{zeroed}

-- the store stays as long as it is
pub zeroed_length : (a n : ℕ) (words : List ℕ) → a + n ≤ length words → length (zeroed a n words) ≡ length words
unfolding zeroed
zeroed_length a n words l = simp (length-append, length-take, length-replicate, length-drop) (omega arith)
