-- The values as they are written.
use Rattle.std.specs.Prelude.{ℕ, suc, ◌+◌, ◌-◌, ◌<◌, ◌≤◌, ◌≡◌, refl, List, [], ◌∷◌, ◌++◌, length, get_or, take, drop, replicate, min, Ok}
use Rattle.std.proofs.Common.{sym, ap, ◌∙◌, arith, get_or-take, eq-eqb, ne_eqb, ⊎_elim, length-append, length-take-le, length-drop}
use Rattle.std.proofs.Math.ListN.{get_or-append}
use Rattle.std.proofs.lemmas.Bool.{cases_lt}
use Rattle.std.proofs.lemmas.List.{ext_get_or, get_or-append_right, get_or-drop, get_or-replicate}
use Rattle.bounded.specs.Fill.{tabulate, tabulate_at}
use Rattle.codec.specs.Laid.{lay_all}
use Rattle.layout.specs.Whole.{words_put}
use Rattle.calls.specs.Answers.{values_from}
use Rattle.calls.specs.declared.Fields.{Fields}
use Rattle.slices.specs.Slices.{values, filled}

-- value i of a done call; 0 behind the last
abbrev pub value_at : ℕ → Fields → ℕ → ℕ
value_at value f i = get_or (values_from (Ok value) f) i 0

-- the eleven values over a slice of their length
pub valued : (value : ℕ) (f : Fields) (bytes : List ℕ) → length bytes ≡ 88
    → words_put bytes (tabulate 11 (value_at value f)) 0 11 ≡ filled bytes (values_from (Ok value) f)
unfolding words_put values filled
valued value f bytes l =
    let vs : List ℕ = values_from (Ok value) f in
    rw l (lay_all (values.put vs) bytes (l ∙ sym (values.put_length vs)))

-- over a slice of another length
pub filled_not : (bytes vs : List ℕ) → (length bytes ≡ 88 → ⊥) → bytes ≡ filled bytes vs
unfolding filled
filled_not bytes vs l = rw (ne_eqb _ 88 l)

-- over a slice of their length
pub filled_whole : (bytes vs : List ℕ) → length bytes ≡ 88 → filled bytes vs ≡ values.put vs
unfolding filled
filled_whole bytes vs l = rw (eq-eqb _ 88 l)

-- the value alone, or the fields
take_past : (n : ℕ) (l : List ℕ) (i : ℕ) → n ≤ i → 0 ≡ get_or (take n l) i 0
take_past ℕ.zero l i h = refl
take_past (suc n) [] i h = refl
take_past (suc n) (x ∷ l) ℕ.zero h = absurd (omega arith)
take_past (suc n) (x ∷ l) (suc i) h = take_past n l i (omega arith)

module _ (value : ℕ) (f : Fields) (i : ℕ) where
  pub value_first : f.count ≡ 0 → i ≡ 0 → value ≡ value_at value f i
  value_first e z = rw (eq-eqb _ 0 e, z)

  pub value_none : f.count ≡ 0 → (i ≡ 0 → ⊥) → 0 ≡ value_at value f i
  value_none e z = rw (eq-eqb _ 0 e) (behind i z)
    where
      behind : (j : ℕ) → (j ≡ 0 → ⊥) → 0 ≡ get_or (value ∷ []) j 0
      behind ℕ.zero n = absurd (n refl)
      behind (suc j) n = refl

  pub value_past : (f.count ≡ 0 → ⊥) → f.count ≤ i → 0 ≡ value_at value f i
  value_past e h = rw (ne_eqb _ 0 e) (take_past f.count f.values i h)

  pub value_there : (f.count ≡ 0 → ⊥) → i < f.count → get_or f.values i 0 ≡ value_at value f i
  value_there e h = rw (ne_eqb _ 0 e) (sym (get_or-take f.count f.values i 0 h))

-- the eleven words: the value alone or the fields, and zeros behind them
pub words_alone : (value : ℕ) (f : Fields) → f.count ≡ 0 → value ∷ replicate 10 0 ≡ tabulate 11 (value_at value f)
words_alone value f e = rw (eq-eqb f.count 0 e)

fields_at : (value : ℕ) (f : Fields) (shown zeros : List ℕ) (n : ℕ) → (f.count ≡ 0 → ⊥) → n ≡ min f.count 11 → length f.values ≡ 11
    → shown ≡ take n f.values → zeros ≡ drop n (replicate 11 0) → shown ++ zeros ≡ tabulate 11 (value_at value f)
fields_at value f shown zeros n e m l s z =
    ext_get_or 0 (shown ++ zeros) (tabulate 11 (value_at value f)) all
    (λ i h. let k : i < 11 = omega (arith, all, h) in at i k ∙ sym (tabulate_at 11 (value_at value f) i 0 k))
  where
    size : length shown ≡ n
    size = rw s (length-take-le n f.values (omega (arith, m, l)))

    all : length (shown ++ zeros) ≡ 11
    all = let none : List ℕ = replicate 11 0 in omega (arith, length-append shown zeros, size, ap length z, length-drop n none, m)

    at : (i : ℕ) → i < 11 → get_or (shown ++ zeros) i 0 ≡ value_at value f i
    at i h =
        ⊎_elim
        (λ b. get_or-append shown zeros 0 i (omega (arith, size, b)) ∙ rw s (get_or-take n f.values i 0 b) ∙ value_there value f i e (omega (arith, m, b)))
        (λ b. get_or-append_right shown zeros n i 0 size b ∙ rw z (get_or-drop n (replicate 11 0) (i - n) 0)
        ∙ get_or-replicate 11 (n + (i - n)) 0 0 (omega (arith, h, b)) ∙ value_past value f i e (omega (arith, m, h, b)))
        (cases_lt i n)

pub words_fields : (value : ℕ) (f : Fields) (n : ℕ) → (f.count ≡ 0 → ⊥) → n ≡ min f.count 11 → length f.values ≡ 11
    → take n f.values ++ drop n (replicate 11 0) ≡ tabulate 11 (value_at value f)
words_fields value f n e m l = fields_at value f (take n f.values) (drop n (replicate 11 0)) n e m l refl refl
