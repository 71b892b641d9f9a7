-- Past the last place of an array nothing stands. The length comes from what is known of a parameter (`.well_formed`).
use Rattle.std.proofs.Common.{ℕ, ◌/◌, ◌≤◌, ◌≡◌, List, length, get_or, arith}
use lib.ListN.{get_or-eq_default}
use Rattle.state.specs.Places.{no_estate, estate_of}
use Rattle.state.specs.declared.Table.{Table}

pub past_get : {A : Type 0} (l : List A) {n k : ℕ} → length l ≡ n → n ≤ k → (d : A) → get_or l k d ≡ d
past_get l {n} {k} h b d = get_or-eq_default l d (omega arith)

pub past_estate : (t : Table) (page : ℕ) → length t.estates ≡ 4 → 4 ≤ page / 32 → estate_of t page ≡ no_estate
past_estate t page h b = past_get t.estates h b no_estate
