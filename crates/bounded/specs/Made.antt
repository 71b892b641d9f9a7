-- An array made by a closure that is called at each place, and that the calls leave as it was.
use Rattle.std.specs.Prelude.{ℕ, suc, ◌+◌, ◌<◌, ◌≡◌, refl, List, length, get_or}
use Rattle.std.proofs.Common.{sym, ◌∙◌, ap, subst, arith, add-zero, zero-add}
use Rattle.std.specs.Array.{IsFromFnResult, IsFromFnResultFrom}
use denote.Param.Members.{Mut, Called}
use Rattle.bounded.specs.Fill.{tabulate, tabulate_at, by_places}

tabulate_length : {A : Type 0} (n : ℕ) (v : ℕ → A) → length (tabulate n v) ≡ n
tabulate_length ℕ.zero v = refl
tabulate_length (suc n) v = ap suc (tabulate_length n (λ k. v (suc k)))

module _ {F B : Type 0} {g : Mut F (ℕ × Unit {0}) B} (f : F) (v : ℕ → B) (stays : (i : ℕ) (y : B) (q : F) → Called g f (i, tt) y q → (q ≡ f) × (y ≡ v i))
    (ys : List B) where
  made : (n i : ℕ) (p : F) → p ≡ f → IsFromFnResultFrom g p ys i n → (j : ℕ) (d : B) → j < n → get_or ys (i + j) d ≡ v (i + j)
  made ℕ.zero i p e m j d h = absurd (omega arith)
  made (suc n) i p e m ℕ.zero d h = rw add-zero (m.2.1 d ∙ (stays i m.1 m.0 (subst (λ k. Called g k (i, tt) m.1 m.0) e m.3)).1)
  made (suc n) i p e m (suc j) d h =
      let k : i + suc j ≡ i + 1 + j = omega arith in
      rw k (made n (i + 1) m.0 (stays i m.1 m.0 (subst (λ k. Called g k (i, tt) m.1 m.0) e m.3)).0 m.4 j d (omega arith))

  -- it holds at each place what a call there gives
  pub from_fn_is : (n : ℕ) (d : B) → IsFromFnResult g f ys n → ys ≡ tabulate n v
  from_fn_is n d m =
      by_places n ys (tabulate n v) d m.long (tabulate_length n v) (λ k h. rw zero-add at (made n 0 f refl m.each k d h) ∙ sym (tabulate_at n v k d h))
