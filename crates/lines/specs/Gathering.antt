-- The numbers of a line, put one after another into an array, as far as it has room.
use Rattle.std.specs.Prelude.{ℕ, zero, suc, ◌+◌, ◌-◌, ◌<◌, ◌≤◌, ◌≡◌, refl, Bool, true, false, cond, eqb, Option as Maybe, Some, None}
use Rattle.std.specs.Prelude.{List, [], ◌∷◌, ◌++◌, length, take, drop, get_or, set, replicate}
use Rattle.std.specs.Iterator.{AlwaysYields}
use Rattle.std.specs.List.{slice_split, onto_first}
use Rattle.std.proofs.Common.{◌∙◌, sym, ap, arith, eqb-true, length-append, length-take, append-nil, Bor}
use Rattle.std.proofs.lemmas.Iterator.{YieldsList}
use Rattle.std.proofs.lemmas.List.Splits.{length-slice_split}
use Rattle.std.proofs.lemmas.List.Sums.{count_by-le-length}
use Rattle.std.proofs.Math.Option.{Option, none, some}
use Rattle.bounded.specs.Folds.{rest_all}
use Rattle.calls.specs.Boot.{boot_numbers}
use Rattle.lines.specs.declared.Named.TheVariants as named
use Rattle.lines.specs.declared.Mnemonic.{Mnemonic}
use Rattle.lines.specs.declared.Mnemonic.TheVariants.{Rd, Wr, Ex, Lk, Cr, Dl, Ap, Dp, Rg, In, Rm, Gt, Lo, Ca, Rt}
use Rattle.lines.specs.Number.{Number, field_of}
use Rattle.lines.specs.Split.{split, field_ends, onto}
use Rattle.lines.specs.Cut.{behind}
use Rattle.lines.specs.Arguments.{numbers_of}
use Rattle.lines.specs.Letters.{Letters}
use Rattle.lines.specs.Reading.{unreadable, boot_by}
use Rattle.lines.specs.Grammar.{call_of, with_arguments}
use Rattle.lines.specs.Taking.{joined, joined_none, joined_more, joined_bad, is_number}

-- an array with numbers from its start on: those that it has room for
unfoldable pub put : List ℕ → List ℕ → List ℕ
put [] vs = []
put (a ∷ values) [] = a ∷ values
put (a ∷ values) (v ∷ vs) = v ∷ put values vs

pub put_none : (values : List ℕ) → values ≡ put values []
unfolding put
put_none [] = refl
put_none (a ∷ values) = refl

-- one number more, in its place or past the end
put_more : (values vs : List ℕ) (v : ℕ) → set (put values vs) (length vs) v ≡ put values (vs ++ (v ∷ []))
unfolding put
put_more [] vs v = refl
put_more (a ∷ values) [] v = ap (λ (l : List ℕ). v ∷ l) (put_none values)
put_more (a ∷ values) (w ∷ vs) v = ap (λ (l : List ℕ). w ∷ l) (put_more values vs v)

put_past : (values vs : List ℕ) (v : ℕ) → length values ≤ length vs → put values vs ≡ put values (vs ++ (v ∷ []))
unfolding put
put_past [] vs v h = refl
put_past (a ∷ values) [] v h = absurd (omega arith)
put_past (a ∷ values) (w ∷ vs) v h = ap (λ (l : List ℕ). w ∷ l) (put_past values vs v (omega arith))

-- all of them, where they are as many as the array holds
pub put_all : (values vs : List ℕ) → length vs ≡ length values → put values vs ≡ vs
unfolding put
put_all [] [] h = refl
put_all [] (v ∷ vs) h = absurd (omega arith)
put_all (a ∷ values) [] h = absurd (omega arith)
put_all (a ∷ values) (v ∷ vs) h = ap (λ (l : List ℕ). v ∷ l) (put_all values vs (omega arith))

-- zeros stand in place of those that are not there
put_get : (n : ℕ) (vs : List ℕ) (k : ℕ) → k < n → get_or (put (replicate n 0) vs) k 0 ≡ get_or vs k 0
unfolding put
put_get zero vs k h = absurd (omega arith)
put_get (suc n) [] zero h = refl
put_get (suc n) [] (suc k) h = rw (put_none (replicate n 0)) (put_get n [] k (omega arith))
put_get (suc n) (v ∷ vs) zero h = refl
put_get (suc n) (v ∷ vs) (suc k) h = put_get n vs k (omega arith)

-- the fields, as the library cuts a text at its commas, and those behind the first comma
parts : (s : List ℕ) → slice_split (λ b. eqb b 44) s ≡ (split s).first ∷ (split s).others
unfolding split
parts [] = refl
parts (b ∷ s) = go (eqb b 44) (parts s)
  where
    go : (u : Bool) → slice_split (λ b. eqb b 44) s ≡ (split s).first ∷ (split s).others
        → cond u ([] ∷ slice_split (λ b. eqb b 44) s) (onto_first b (slice_split (λ b. eqb b 44) s))
        ≡ (cond u (field_ends (split s)) (onto b (split s))).first ∷ (cond u (field_ends (split s)) (onto b (split s))).others
    go true h = rw h refl
    go false h = rw h refl

behind_parts : (t : List ℕ) → 1 ≤ length t → behind t ≡ slice_split (λ b. eqb b 44) (take (length t - 1) (drop 1 t))
behind_parts [] h = absurd (omega arith)
behind_parts (b ∷ s) h = rw (rest_all (b ∷ s) 1) (sym (parts s))

-- what the loop over the fields knows, when it took n numbers
pub record Gathering {S : Type 0} (steps : S → Maybe (Bor (List ℕ)) → S → Type 0) (s : S) (t : List ℕ) (n : ℕ) (before values : List ℕ) : Type 0 where
  pub left : List (List ℕ)
  pub fields : YieldsList steps (λ f. f.now) s left
  pub numbers : List ℕ
  pub rest : numbers_of (behind t) ≡ joined numbers (numbers_of left)
  pub count : n ≡ length numbers
  pub few : n + length left ≤ length t
  pub so_far : values ≡ put before numbers

-- what is handed back: none where a field is no number, else how many numbers there are, and the array with them
abbrev pub Gathered : Option (List ℕ) → Maybe ℕ → List ℕ → List ℕ → Type 0
Gathered none r before values = r ≡ None
Gathered (some vs) r before values = (r ≡ Some (length vs)) × (values ≡ put before vs)

-- a text of nothing has no field
pub nothing_gathered : (t before : List ℕ) → length t < 1 → Gathered (numbers_of (behind t)) (Some 0) before before
unfolding numbers_of
nothing_gathered [] before h = (refl, put_none before)
nothing_gathered (b ∷ t) before h = absurd (omega arith)

module _ {S : Type 0} {steps : S → Maybe (Bor (List ℕ)) → S → Type 0} {t before : List ℕ} {s : S} where
  pub gathering_none : 1 ≤ length t → YieldsList steps (λ f. f.now) s (slice_split (λ b. eqb b 44) (take (length t - 1) (drop 1 t)))
      → Gathering steps s t 0 before before
  gathering_none h y =
      let text = take (length t - 1) (drop 1 t) in
      let parted = slice_split (λ b. eqb b 44) text in
      record {
        left = parted;
        fields = y;
        numbers = [];
        rest = rw (behind_parts t h) (joined_none (numbers_of parted));
        count = refl;
        few = omega (arith, length-slice_split (λ b. eqb b 44) text, count_by-le-length (λ b. eqb b 44) text, length-take (length t - 1) (drop 1 t));
        so_far = put_none before;
      }

  module _ {n : ℕ} {values : List ℕ} (k : Gathering steps s t n before values) {u : S} where
    pub gathering_all : steps s None u → Gathered (numbers_of (behind t)) (Some n) before values
    unfolding numbers_of
    gathering_all e = go k.left k.fields.runs k.rest
      where
        go : (left : List (List ℕ)) → AlwaysYields steps (λ f. f.now) s left → numbers_of (behind t) ≡ joined k.numbers (numbers_of left)
            → Gathered (numbers_of (behind t)) (Some n) before values
        go [] y h = rw (h, append-nil k.numbers) (ap Some k.count, k.so_far)
        go (f ∷ left) y h = absurd (y.0 u e)

    module _ {x : Bor (List ℕ)} (e : steps s (Some x) u) where
      pub gathering_bad : is_number (field_of x.now) ≡ false → Gathered (numbers_of (behind t)) None before values
      unfolding numbers_of
      gathering_bad b = go k.left k.fields.runs k.rest
        where
          go : (left : List (List ℕ)) → AlwaysYields steps (λ f. f.now) s left → numbers_of (behind t) ≡ joined k.numbers (numbers_of left)
              → Gathered (numbers_of (behind t)) None before values
          go [] y h = absurd (y x u e)
          go (f ∷ left) y h =
              let w : field_of f ≡ field_of x.now = ap field_of (sym (y.1 x u e).0) in
              rw (h, w, joined_bad k.numbers (field_of x.now) (numbers_of left) b) refl

      pub gathering_more : n < length t
      gathering_more = go k.left k.fields.runs k.few
        where
          go : (left : List (List ℕ)) → AlwaysYields steps (λ f. f.now) s left → n + length left ≤ length t → n < length t
          go [] y h = absurd (y x u e)
          go (f ∷ left) y h = omega arith

      module _ {v : ℕ} (m : Number v ≡ field_of x.now) where
        one_more : (more : List ℕ) → more ≡ put before (k.numbers ++ (v ∷ [])) → Gathering steps u t (n + 1) before more
        unfolding numbers_of
        one_more more w = go k.left k.fields.runs k.rest k.few
          where
            go : (left : List (List ℕ)) → AlwaysYields steps (λ f. f.now) s left → numbers_of (behind t) ≡ joined k.numbers (numbers_of left)
                → n + length left ≤ length t → Gathering steps u t (n + 1) before more
            go [] y h l = absurd (y x u e)
            go (f ∷ left) y h l =
                let same : field_of f ≡ Number v = ap field_of (sym (y.1 x u e).0) ∙ sym m in
                record {
                  left = left;
                  fields = record { runs = (y.1 x u e).1 };
                  numbers = k.numbers ++ (v ∷ []);
                  rest = rw (h, same) (joined_more k.numbers v (numbers_of left));
                  count = omega (arith, k.count, length-append k.numbers (v ∷ []));
                  few = omega arith;
                  so_far = w;
                }

        -- the number stands in its place, or past the end
        pub gathering_next : Gathering steps u t (n + 1) before (set values n v) × (length before ≤ n → Gathering steps u t (n + 1) before values)
        gathering_next = (
          one_more (set values n v) (rw (k.so_far, k.count) (put_more before k.numbers v)),
          λ p. one_more values (rw k.so_far (put_past before k.numbers v (omega (arith, k.count)))),
        )

-- a line with a field that is no number, a boot and a call, by what is handed back
pub none_gathered : (d : ℕ) (l : Letters) (o : Option (List ℕ)) (before values : List ℕ) → Gathered o None before values → unreadable ≡ with_arguments d l o
none_gathered d l none before values g = refl
none_gathered d l (some vs) before values g = cc

pub boot_gathered : (d n : ℕ) (o : Option (List ℕ)) (before values : List ℕ) → Gathered o (Some n) before values → length before ≡ boot_numbers
    → cond (eqb n boot_numbers) (boot_by d values) unreadable ≡ with_arguments d (Some named.Boot) o
boot_gathered d n none before values g h = cc
boot_gathered d n (some vs) before values g h =
    let e : n ≡ length vs = cc in
    rw (g.1, e) (by_count (eqb (length vs) boot_numbers) refl)
  where
    by_count : (t : Bool) → eqb (length vs) boot_numbers ≡ t → cond t (boot_by d (put before vs)) unreadable ≡ cond t (boot_by d vs) unreadable
    by_count true q = let e = eqb-true (length vs) boot_numbers q in rw (put_all before vs (omega arith))
    by_count false q = refl

-- the arguments of a call, by those that it reads
call_same : (d n : ℕ) (m : Mnemonic) (x vs : List ℕ) → ((k : ℕ) → k < 8 → get_or x k 0 ≡ get_or vs k 0) → call_of d m n x ≡ call_of d m n vs
unfolding call_of
call_same d n m x vs h =
    go m (h 0 (omega arith)) (h 1 (omega arith)) (h 2 (omega arith)) (h 3 (omega arith)) (h 4 (omega arith)) (h 5 (omega arith)) (h 6 (omega arith))
    (h 7 (omega arith))
  where
    go : (m : Mnemonic) → get_or x 0 0 ≡ get_or vs 0 0 → get_or x 1 0 ≡ get_or vs 1 0 → get_or x 2 0 ≡ get_or vs 2 0 → get_or x 3 0 ≡ get_or vs 3 0
        → get_or x 4 0 ≡ get_or vs 4 0 → get_or x 5 0 ≡ get_or vs 5 0 → get_or x 6 0 ≡ get_or vs 6 0 → get_or x 7 0 ≡ get_or vs 7 0
        → call_of d m n x ≡ call_of d m n vs
    go Rd a b c e f g i j = rw a
    go Wr a b c e f g i j = rw (a, b)
    go Ex a b c e f g i j = rw a
    go Lk a b c e f g i j = rw (a, b)
    go Cr a b c e f g i j = rw (a, b, c, e)
    go Dl a b c e f g i j = rw a
    go Ap a b c e f g i j = rw (a, b, c)
    go Dp a b c e f g i j = rw (a, b)
    go Rg a b c e f g i j = rw (a, b, c, e, f, g, i, j)
    go In a b c e f g i j = rw (a, b, c)
    go Rm a b c e f g i j = rw a
    go Gt a b c e f g i j = refl
    go Lo a b c e f g i j = rw a
    go Ca a b c e f g i j = rw (a, b)
    go Rt a b c e f g i j = refl

pub call_gathered : (d n : ℕ) (m : Mnemonic) (o : Option (List ℕ)) (x : List ℕ) → Gathered o (Some n) (replicate 8 0) x
    → call_of d m n x ≡ with_arguments d (Some (named.Call m)) o
call_gathered d n m none x g = cc
call_gathered d n m (some vs) x g =
    let e : n ≡ length vs = cc in
    rw (g.1, e) (call_same d (length vs) m (put (replicate 8 0) vs) vs (λ k. put_get 8 vs k))
