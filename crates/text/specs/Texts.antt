-- Texts one behind the other.
use Rattle.std.specs.Prelude.{ℕ, zero, suc, ◌+◌, ◌≡◌, List, ◌++◌}
use Rattle.std.proofs.Common.{add-one}

-- s, and behind it `f 0`, .., `f (n - 1)`
unfoldable pub texts_behind : List ℕ → ℕ → (ℕ → List ℕ) → List ℕ
texts_behind s zero f = s
texts_behind s (suc n) f = texts_behind s n f ++ f n

pub texts_behind_more : (s : List ℕ) (n : ℕ) (f : ℕ → List ℕ) → texts_behind s n f ++ f n ≡ texts_behind s (n + 1) f
unfolding texts_behind
texts_behind_more s n f = rw (add-one n)
