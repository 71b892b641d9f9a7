-- A whole store of zeros.
use Rattle.std.specs.Prelude.{ℕ, ◌+◌, ◌≤◌, ◌≡◌, length, replicate}
use Rattle.std.proofs.Common.{arith, le-leb}
use mathlib.Core.List.{List, append-nil}
use Rattle.std.proofs.Math.Seq.{drop-length}
use Rattle.calls.specs.Changes.{zeroed, zeroed_within}

-- zeroing a whole store leaves zeros
pub zeroed_whole : (n : ℕ) (words : List ℕ) → length words ≡ n → zeroed_within 0 n words ≡ replicate n 0
unfolding zeroed
zeroed_whole n words h =
    let e : 0 + n ≡ length words = omega arith in
    let l : 0 + n ≤ length words = omega arith in
    rw (le-leb _ _ l) (rw (e, drop-length) (append-nil (replicate n 0)))
