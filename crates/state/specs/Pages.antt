-- Pages on account: document 02, T-05. The figure of an account, and which accounts a domain may charge.
use Rattle.std.specs.Prelude.{ℕ, ◌/◌, ◌%◌, ◌^◌, Bool, cond, ◌&&◌, ltb, eqb}
use Rattle.bounded.specs.Sum.{total}
use Rattle.state.specs.Places.{object_at, estate_at, set_at}
use Rattle.state.specs.declared.Object.{Object}
use Rattle.state.specs.declared.Estate.{Estate}
use Rattle.state.specs.declared.Table.{Table}
use Rattle.state.specs.declared.Accounts.{Accounts}

-- the pages that an object puts on an account; a free place has none
abbrev pub pages_on : ℕ → Object → ℕ
pages_on a o = cond (eqb o.account a) o.pages 0

unfoldable pub estate_pages : ℕ → Estate → ℕ
estate_pages a e = total 8 (λ k. pages_on a (object_at e k))

-- the figure of an account: the summed lengths of the objects that stand on it
unfoldable pub pages_of : Table → ℕ → ℕ
pages_of t a = total 4 (λ d. estate_pages a (estate_at t d))

-- a set has one of the four accounts where its bit of that number is 1
unfoldable pub in_set : ℕ → ℕ → Bool
in_set set a = ltb a 4 && eqb (set / 2 ^ a % 2) 1

abbrev pub may_charge : Accounts → ℕ → ℕ → Bool
may_charge x d a = in_set (set_at x d) a
