-- The fields of a line, joined by commas, are the line; and fields without commas, joined by commas, are split into themselves.
use Rattle.std.specs.Prelude.{ℕ, ◌≡◌, refl, Bool, true, false, cond, not, ◌&&◌, List, [], ◌∷◌, ◌++◌, eqb}
use Rattle.std.proofs.Common.{◌∙◌, ap, append-nil, eqb-true}
use Rattle.lines.specs.Split.{split, field_ends, onto}

-- fields, each behind a comma
unfoldable pub behind_commas : List (List ℕ) → List ℕ
behind_commas [] = []
behind_commas (f ∷ fs) = 44 ∷ (f ++ behind_commas fs)

pub split_joined : (s : List ℕ) → (split s).first ++ behind_commas (split s).others ≡ s
unfolding split behind_commas
split_joined [] = refl
split_joined (b ∷ s) = go (eqb b 44) refl (split_joined s)
  where
    go : (t : Bool) → eqb b 44 ≡ t → (split s).first ++ behind_commas (split s).others ≡ s
        → (cond t (field_ends (split s)) (onto b (split s))).first ++ behind_commas (cond t (field_ends (split s)) (onto b (split s))).others ≡ b ∷ s
    go true e h = let w : b ≡ 44 = eqb-true b 44 e in rw (h, w)
    go false e h = ap (λ (l : List ℕ). b ∷ l) h

-- no byte is a comma
unfoldable pub plain : List ℕ → Bool
plain [] = true
plain (b ∷ f) = not (eqb b 44) && plain f

unfoldable pub all_plain : List (List ℕ) → Bool
all_plain [] = true
all_plain (f ∷ fs) = plain f && all_plain fs

split_one : (f : List ℕ) → plain f ≡ true → split f ≡ record { first = f; others = [] }
unfolding split plain
split_one [] h = refl
split_one (b ∷ f) h = go (eqb b 44) h (split_one f)
  where
    go : (t : Bool) → (not t && plain f) ≡ true → (plain f ≡ true → split f ≡ record { first = f; others = [] })
        → cond t (field_ends (split f)) (onto b (split f)) ≡ record { first = b ∷ f; others = [] }
    go true k ih = cc
    go false k ih = ap (onto b) (ih k)

split_first : (f t : List ℕ) → plain f ≡ true → split (f ++ (44 ∷ t)) ≡ record { first = f; others = (split t).first ∷ (split t).others }
unfolding split plain
split_first [] t h = refl
split_first (b ∷ f) t h = go (eqb b 44) h (split_first f t)
  where
    go : (u : Bool) → (not u && plain f) ≡ true
        → (plain f ≡ true → split (f ++ (44 ∷ t)) ≡ record { first = f; others = (split t).first ∷ (split t).others })
        → cond u (field_ends (split (f ++ (44 ∷ t)))) (onto b (split (f ++ (44 ∷ t)))) ≡ record { first = b ∷ f; others = (split t).first ∷ (split t).others }
    go true k ih = cc
    go false k ih = ap (onto b) (ih k)

pub split_fields : (fs : List (List ℕ)) (f : List ℕ) → plain f ≡ true → all_plain fs ≡ true
    → split (f ++ behind_commas fs) ≡ record { first = f; others = fs }
unfolding behind_commas all_plain
split_fields [] f h a = rw (append-nil f) (split_one f h)
split_fields (g ∷ gs) f h a = go (plain g) refl a (split_fields gs g)
  where
    go : (t : Bool) → plain g ≡ t → (t && all_plain gs) ≡ true
        → (plain g ≡ true → all_plain gs ≡ true → split (g ++ behind_commas gs) ≡ record { first = g; others = gs })
        → split (f ++ (44 ∷ (g ++ behind_commas gs))) ≡ record { first = f; others = g ∷ gs }
    go true e k ih = split_first f (g ++ behind_commas gs) h ∙ rw (ih e k)
    go false e k ih = cc
