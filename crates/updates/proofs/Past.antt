-- Past the last place of an array nothing changes. The length comes from what is known of a parameter (`.well_formed`).
use Prim.Native.Nat.{ℕ, ◌≤◌}
use mathlib.Core.List.{List}
use mathlib.Core.Path.{◌≡◌}
use native.Mathlib.Omega.{arith}
use lib.ListN.{length, set}
use lib.Seq.{set_out}

pub past : {A : Type 0} (l : List A) {n k : ℕ} → length l ≡ n → n ≤ k → (v : A) → set l k v ≡ l
past l {n} {k} h b v = set_out l k v (omega arith)
