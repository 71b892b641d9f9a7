-- The part of a list that a test keeps: what fails the test is blanked, and each place stays where it is.
use Rattle.std.specs.Prelude.{ℕ, suc, ◌+◌, ◌<◌, ◌≤◌, ◌≡◌, refl, Bool, true, false, cond, List, [], ◌∷◌, ◌++◌, ◌⊎◌, length, get_or, set, drop, replicate}
use Rattle.std.proofs.Common.{sym, ap, ◌∙◌, true≢false, inl, inr, zero-add, suc-add, arith}
use Rattle.bounded.specs.Bools.{flag}
use Rattle.bounded.specs.Fill.{tabulate}
use Rattle.calls.specs.Changes.{zeroed}

-- the value at each place that passes the test, the blank at the others
unfoldable pub mask : {A : Type 0} → (ℕ → Bool) → A → List A → List A
mask keeps z [] = []
mask keeps z (a ∷ l) = cond (keeps 0) a z ∷ mask (λ i. keeps (suc i)) z l

-- a choice between equals
cond_same : {A : Type 0} (b : Bool) (x : A) → cond b x x ≡ x
cond_same true x = refl
cond_same false x = refl

-- Choosing twice by one test is choosing once.
pub cond_cond : {A : Type 0} (b : Bool) (x z : A) → cond b (cond b x z) z ≡ cond b x z
cond_cond true x z = refl
cond_cond false x z = refl

-- choices agree that agree where the test passes
cond_agree : {A : Type 0} (b : Bool) (x y z : A) → (b ≡ true → x ≡ y) → cond b x z ≡ cond b y z
cond_agree true x y z h = h refl
cond_agree false x y z h = refl

-- Tests that agree keep the same.
pub mask_keeps : {A : Type 0} (keeps keeps' : ℕ → Bool) (z : A) (l : List A) → ((i : ℕ) → keeps i ≡ keeps' i) → mask keeps z l ≡ mask keeps' z l
unfolding mask
mask_keeps keeps keeps' z [] h = refl
mask_keeps keeps keeps' z (a ∷ l) h = rw (h 0, mask_keeps (λ i. keeps (suc i)) (λ i. keeps' (suc i)) z l (λ i. h (suc i)))

-- The part has as many places.
pub mask_length : {A : Type 0} (keeps : ℕ → Bool) (z : A) (l : List A) → length (mask keeps z l) ≡ length l
unfolding mask
mask_length keeps z [] = refl
mask_length keeps z (a ∷ l) = ap suc (mask_length (λ i. keeps (suc i)) z l)

-- what stands at a place of the part
mask_at : {A : Type 0} (keeps : ℕ → Bool) (z : A) (l : List A) (n : ℕ) → get_or (mask keeps z l) n z ≡ cond (keeps n) (get_or l n z) z
unfolding mask
mask_at keeps z [] n = sym (cond_same (keeps n) z)
mask_at keeps z (a ∷ l) ℕ.zero = refl
mask_at keeps z (a ∷ l) (suc n) = mask_at (λ i. keeps (suc i)) z l n

-- At a place that is kept, what stood there.
pub mask_in : {A : Type 0} (keeps : ℕ → Bool) (z : A) (l : List A) (n : ℕ) → keeps n ≡ true → get_or (mask keeps z l) n z ≡ get_or l n z
mask_in keeps z l n h = mask_at keeps z l n ∙ rw h

-- At any other place, the blank.
pub mask_out : {A : Type 0} (keeps : ℕ → Bool) (z : A) (l : List A) (n : ℕ) → keeps n ≡ false → get_or (mask keeps z l) n z ≡ z
mask_out keeps z l n h = mask_at keeps z l n ∙ rw h

-- The part of the part is the part.
pub mask_mask : {A : Type 0} (keeps : ℕ → Bool) (z : A) (l : List A) → mask keeps z (mask keeps z l) ≡ mask keeps z l
unfolding mask
mask_mask keeps z [] = refl
mask_mask keeps z (a ∷ l) = cc (cond_cond (keeps 0) a z, mask_mask (λ i. keeps (suc i)) z l)

-- Lists given place by place have the same part where they agree at the places kept.
pub mask_tabulate : {A : Type 0} (keeps : ℕ → Bool) (z : A) (n : ℕ) (f g : ℕ → A) → ((i : ℕ) → keeps i ≡ true → f i ≡ g i)
    → mask keeps z (tabulate n f) ≡ mask keeps z (tabulate n g)
unfolding mask
mask_tabulate keeps z ℕ.zero f g h = refl
mask_tabulate keeps z (suc n) f g h =
    cc (
      cond_agree (keeps 0) (f 0) (g 0) z (h 0),
      mask_tabulate (λ i. keeps (suc i)) z n (λ i. f (suc i)) (λ i. g (suc i)) (λ i. h (suc i)),
    )

-- What is put in shows in the part as if it were put into the part alone.
pub mask_set : {A : Type 0} (keeps : ℕ → Bool) (z : A) (l : List A) (n : ℕ) (v : A)
    → mask keeps z (set (mask keeps z l) n v) ≡ mask keeps z (set l n v)
unfolding mask
mask_set keeps z [] n v = refl
mask_set keeps z (a ∷ l) ℕ.zero v = ap (λ t. cond (keeps 0) v z ∷ t) (mask_mask (λ i. keeps (suc i)) z l)
mask_set keeps z (a ∷ l) (suc n) v = cc (cond_cond (keeps 0) a z, mask_set (λ i. keeps (suc i)) z l n v)

-- What is put in at a place that is not kept does not show.
pub mask_set_out : {A : Type 0} (keeps : ℕ → Bool) (z : A) (l : List A) (n : ℕ) (v : A) → keeps n ≡ false
    → mask keeps z (set l n v) ≡ mask keeps z l
unfolding mask
mask_set_out keeps z [] n v h = refl
mask_set_out keeps z (a ∷ l) ℕ.zero v h = rw h
mask_set_out keeps z (a ∷ l) (suc n) v h = ap (λ t. cond (keeps 0) a z ∷ t) (mask_set_out (λ i. keeps (suc i)) z l n v h)

-- Put into lists with the same part, values that agree where the place is kept leave the same part.
pub mask_set_same : {A : Type 0} (keeps : ℕ → Bool) (z : A) (l l' : List A) (n : ℕ) (v v' : A) → mask keeps z l ≡ mask keeps z l'
    → (keeps n ≡ true → v ≡ v') → mask keeps z (set l n v) ≡ mask keeps z (set l' n v')
mask_set_same keeps z l l' n v v' e h = go (flag (keeps n))
  where
    go : (keeps n ≡ true) ⊎ (keeps n ≡ false) → mask keeps z (set l n v) ≡ mask keeps z (set l' n v')
    go (inl k) = rw (h k, ← mask_set keeps z l n v', e) (mask_set keeps z l' n v')
    go (inr o) = mask_set_out keeps z l n v o ∙ e ∙ sym (mask_set_out keeps z l' n v' o)

-- the first words zeroed
mask_zeros : (keeps : ℕ → Bool) (n : ℕ) (l : List ℕ)
    → mask keeps 0 (replicate n 0 ++ drop n (mask keeps 0 l)) ≡ mask keeps 0 (replicate n 0 ++ drop n l)
unfolding mask
mask_zeros keeps ℕ.zero l = mask_mask keeps 0 l
mask_zeros keeps (suc n) [] = refl
mask_zeros keeps (suc n) (x ∷ l) = ap (λ t. cond (keeps 0) 0 0 ∷ t) (mask_zeros (λ i. keeps (suc i)) n l)

mask_zeros_out : (keeps : ℕ → Bool) (n : ℕ) (l : List ℕ) → n ≤ length l → ((i : ℕ) → i < n → keeps i ≡ false)
    → mask keeps 0 (replicate n 0 ++ drop n l) ≡ mask keeps 0 l
unfolding mask
mask_zeros_out keeps ℕ.zero l fits h = refl
mask_zeros_out keeps (suc n) [] fits h = absurd (omega arith)
mask_zeros_out keeps (suc n) (x ∷ l) fits h =
    cc (
      cond_agree (keeps 0) 0 x 0 (λ e. absurd (true≢false (sym e ∙ h 0 (omega arith)))),
      mask_zeros_out (λ i. keeps (suc i)) n l (omega arith) (λ i m. h (suc i) (omega arith)),
    )

-- Words that are zeroed show in the part as if they were zeroed in the part alone.
pub mask_zeroed : (keeps : ℕ → Bool) (a n : ℕ) (l : List ℕ) → mask keeps 0 (zeroed a n (mask keeps 0 l)) ≡ mask keeps 0 (zeroed a n l)
unfolding mask zeroed
mask_zeroed keeps ℕ.zero n l = rw zero-add (mask_zeros keeps n l)
mask_zeroed keeps (suc a) n [] = refl
mask_zeroed keeps (suc a) n (x ∷ l) = rw suc-add (cc (cond_cond (keeps 0) x 0, mask_zeroed (λ i. keeps (suc i)) a n l))

-- Words that are zeroed at places that are not kept do not show.
pub mask_zeroed_out : (keeps : ℕ → Bool) (a n : ℕ) (l : List ℕ) → a + n ≤ length l → ((i : ℕ) → a ≤ i → i < a + n → keeps i ≡ false)
    → mask keeps 0 (zeroed a n l) ≡ mask keeps 0 l
unfolding mask zeroed
mask_zeroed_out keeps ℕ.zero n l fits h = rw zero-add (mask_zeros_out keeps n l (omega arith) (λ i m. h i (omega arith) (omega arith)))
mask_zeroed_out keeps (suc a) n [] fits h = absurd (omega arith)
mask_zeroed_out keeps (suc a) n (x ∷ l) fits h =
    rw suc-add
    (ap (λ t. cond (keeps 0) x 0 ∷ t) (mask_zeroed_out (λ i. keeps (suc i)) a n l (omega arith) (λ i b m. h (suc i) (omega arith) (omega arith))))
