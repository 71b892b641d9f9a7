-- The numbers of a line, where an array is to hold all of them: reading stops at one too many.
use Rattle.std.specs.Prelude.{ℕ, ◌+◌, ◌≤◌, ◌≡◌, refl, Bool, true, false, cond, ◌&&◌, eqb, leb, Option as Maybe, Some, None}
use Rattle.std.specs.Prelude.{List, [], ◌∷◌, ◌++◌, length}
use Rattle.std.specs.Iterator.{AlwaysYields}
use Rattle.std.proofs.Common.{◌∙◌, sym, arith, eqb-true, le-leb, length-append, Bor}
use Rattle.std.proofs.Math.Option.{Option, none, some}
use Rattle.std.proofs.lemmas.Bool.{lt-leb}
use borrow.Author.Tests.{eq-eqb}
use Rattle.calls.specs.Boot.{boot_numbers}
use Rattle.lines.specs.declared.Named.TheVariants as named
use Rattle.lines.specs.Number.{Field, Empty, Number, Bad, field_of}
use Rattle.lines.specs.Cut.{behind}
use Rattle.lines.specs.Arguments.{in_front, numbers_of}
use Rattle.lines.specs.Reading.{unreadable, boot_by}
use Rattle.lines.specs.Grammar.{with_arguments}
use Rattle.lines.specs.Taking.{joined}
use Rattle.lines.specs.Gathering.{Gathering, Gathered, boot_gathered}

-- the numbers, or none where an array that is to hold them all has fewer places
abbrev pub held_by : Bool → ℕ → Option (List ℕ) → Option (List ℕ)
held_by true n (some vs) = cond (leb (length vs) n) (some vs) none
held_by true n none = none
held_by false n o = o

-- a number more where there is room for no more, and where there is
pub no_room : (all : Bool) (n m : ℕ) → (all && eqb n m) ≡ true → (all ≡ true) × (n ≡ m)
no_room true n m h = (refl, eqb-true n m h)
no_room false n m h = cc

pub still_room : (all : Bool) (n m : ℕ) → (all && eqb n m) ≡ false → n ≤ m → all ≡ true → n + 1 ≤ m
still_room false n m h l e = cc
still_room true n m h l e = let ne : n ≡ m → ⊥ = λ q. (let w = eq-eqb n m q in cc) in omega (arith, ne)

-- what is handed back of as many as there is room for
pub held_gathered : (all : Bool) (n : ℕ) (o : Option (List ℕ)) (k : ℕ) (before values : List ℕ) → Gathered o (Some k) before values
    → (all ≡ true → k ≤ n) → Gathered (held_by all n o) (Some k) before values
held_gathered false n o k before values g h = g
held_gathered true n none k before values g h = g
held_gathered true n (some vs) k before values g h =
    let e : k ≡ length vs = cc in
    let l : length vs ≤ n = omega (arith, h refl) in
    rw (le-leb (length vs) n l) g

pub held_none : (all : Bool) (n : ℕ) (o : Option (List ℕ)) (before values : List ℕ) → Gathered o None before values → Gathered (held_by all n o) None before values
held_none false n o before values g = g
held_none true n none before values g = g
held_none true n (some vs) before values g = cc

-- one number more than there is room for, in front of whatever follows
over_room : (ns : List ℕ) (f : Field) (o : Option (List ℕ)) (before values : List ℕ) → length ns ≡ length before
    → Gathered (held_by true (length before) (joined ns (in_front f o))) None before values
over_room ns Empty o before values h = refl
over_room ns Bad o before values h = refl
over_room ns (Number v) none before values h = refl
over_room ns (Number v) (some ws) before values h =
    rw (lt-leb (length (ns ++ (v ∷ ws))) (length before) (omega (arith, h, length-append ns (v ∷ ws)))) refl

module _ {S : Type 0} {steps : S → Maybe (Bor (List ℕ)) → S → Type 0} {t before : List ℕ} {s : S} {n : ℕ} {values : List ℕ} (k : Gathering steps s t n before values) where
  pub gathering_over : {u : S} {x : Bor (List ℕ)} → steps s (Some x) u → n ≡ length before
      → Gathered (held_by true (length before) (numbers_of (behind t))) None before values
  unfolding numbers_of
  gathering_over {u} {x} e h = go k.left k.fields.runs k.rest
    where
      go : (left : List (List ℕ)) → AlwaysYields steps (λ f. f.now) s left → numbers_of (behind t) ≡ joined k.numbers (numbers_of left)
          → Gathered (held_by true (length before) (numbers_of (behind t))) None before values
      go [] y w = absurd (y x u e)
      go (f ∷ left) y w = rw w (over_room k.numbers (field_of f) (numbers_of left) before values (sym k.count ∙ h))

-- a boot by the numbers that there is room for, which are all of its own
pub boot_held : (d n : ℕ) (o : Option (List ℕ)) (before values : List ℕ) → Gathered (held_by true (length before) o) (Some n) before values
    → length before ≡ boot_numbers → cond (eqb n boot_numbers) (boot_by d values) unreadable ≡ with_arguments d (Some named.Boot) o
boot_held d n none before values g h = cc
boot_held d n (some vs) before values g h = go (leb (length vs) (length before)) refl g
  where
    go : (t : Bool) → leb (length vs) (length before) ≡ t → Gathered (cond t (some vs) none) (Some n) before values
        → cond (eqb n boot_numbers) (boot_by d values) unreadable ≡ with_arguments d (Some named.Boot) (some vs)
    go true q g = boot_gathered d n (some vs) before values g h
    go false q g = cc
