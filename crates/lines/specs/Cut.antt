-- A line cut at the places of its commas.
use Rattle.std.specs.Prelude.{ℕ, suc, ◌+◌, ◌<◌, ◌≡◌, refl, Bool, true, false, cond, List, [], ◌∷◌, eqb, length, take, drop}
use Rattle.std.proofs.Common.{ap, add-one, drop-cons, drop-drop}
use Rattle.lines.specs.Until.{until}
use Rattle.lines.specs.Split.{field_ends, onto, split}

-- where the first comma stands, or the length
abbrev pub comma_of : List ℕ → ℕ
comma_of = until 44

-- the fields behind a comma; none behind the end
abbrev pub behind : List ℕ → List (List ℕ)
behind [] = []
behind (b ∷ t) = (split t).first ∷ (split t).others

-- the first field goes up to the first comma, and the others are behind it
pub cut : (s : List ℕ) → split s ≡ record { first = take (comma_of s) s; others = behind (drop (comma_of s) s) }
unfolding split until
cut [] = refl
cut (b ∷ s) = go (eqb b 44) (cut s)
  where
    go : (t : Bool) → split s ≡ record { first = take (comma_of s) s; others = behind (drop (comma_of s) s) }
        → cond t (field_ends (split s)) (onto b (split s))
        ≡ record { first = take (cond t 0 (suc (comma_of s))) (b ∷ s); others = behind (drop (cond t 0 (suc (comma_of s))) (b ∷ s)) }
    go true h = refl
    go false h = ap (onto b) h

-- the fields from the comma at `i` on: the one behind it, and those from the next comma on
pub behind_at : (s : List ℕ) (i : ℕ) → i < length s
    → behind (drop i s)
    ≡ take (comma_of (drop (i + 1) s)) (drop (i + 1) s) ∷ behind (drop (i + 1 + comma_of (drop (i + 1) s)) s)
behind_at s i h =
    rw (drop-cons s i 0, ← add-one i, cut (drop (i + 1) s), drop-drop (comma_of (drop (i + 1) s)) (i + 1) s)
