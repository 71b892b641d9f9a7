-- A sum with one term more, as a loop adds it.
use Rattle.std.proofs.Common.{ℕ, ◌+◌, ◌≡◌, add-one}
use Rattle.bounded.specs.Sum.{total}

pub one_more : (n s x : ℕ) (f : ℕ → ℕ) → s ≡ total n f → x ≡ f n → s + x ≡ total (n + 1) f
unfolding total
one_more n s x f h g = rw (add-one n, h, g)
