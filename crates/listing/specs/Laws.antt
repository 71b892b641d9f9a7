-- The line of an object as it is put, and a table without objects.
use Rattle.std.specs.Prelude.{ℕ, zero, suc, ◌+◌, ◌<◌, ◌≤◌, ◌≡◌, refl, List, [], ◌∷◌, ◌++◌, length, count_by, not, eqb, get_or, Bool, true, false, cond}
use Rattle.std.proofs.Common.{append_assoc, append-nil, length-append, arith, add-one, le-leb, eq-eqb, sym, ◌∙◌}
use Rattle.std.proofs.lemmas.List.Recursion.{is_count_by}
use Rattle.bounded.specs.Sum.{total}
use Rattle.state.specs.Places.{object_at, estate_at, no_password}
use Rattle.state.specs.declared.Password.{Password}
use Rattle.state.specs.declared.Object.{Object}
use Rattle.state.specs.declared.Table.{Table}
use Rattle.text.specs.Decimal.{decimal}
use Rattle.text.specs.Puts.{Put, put_from}
use Rattle.text.specs.Answer.{fields_text, answer_line, printed, printed_end, with_line}
use Rattle.text.specs.Size.{answer_length}
use Rattle.text.specs.Texts.{texts_behind}
use Rattle.listing.specs.Lines.{one_for, password_count, registered, object_line, texts, estate_lines, header, listing}

-- the numbers behind base and page count
abbrev pub fields_of : Object → List ℕ
fields_of o = o.account ∷ password_count o ∷ registered o ∷ []

-- a line of five numbers is an answer line with three values
line_is : (o : Object) → answer_line o.base o.pages (fields_of o) ≡ object_line o
unfolding object_line answer_line fields_text
line_is o =
    let a : List ℕ = decimal o.base ++ (44 ∷ decimal o.pages) in
    let b : List ℕ = 44 ∷ decimal o.account in
    let c : List ℕ = 44 ∷ decimal (password_count o) in
    let d : List ℕ = 44 ∷ decimal (registered o) in
    rw (← append_assoc a (b ++ c) d, ← append_assoc a b c)

-- it has at most 105 bytes, so that where there are as many it is put, behind what stands
pub line_put : (o : Object) (old : List ℕ) (at : ℕ) {new : List ℕ} {end : ℕ} → at + 105 ≤ length old
    → new ≡ printed old at o.base o.pages (fields_of o) → end ≡ printed_end old at o.base o.pages (fields_of o)
    → Put old at (object_line o) new end × (end ≤ at + 105)
line_put o old at h n e =
    let r = le-leb (at + 105) (length old) h in
    (rw (n, e, r, ← line_is o) (put_from old at (answer_line o.base o.pages (fields_of o)) (omega arith)), rw (e, r) (omega (arith, answer_length o.base o.pages (fields_of o))))

-- behind another text, where there are as many
pub object_put : (o : Object) (n : ℕ) (s new : List ℕ) → length s + 105 ≤ n → new ≡ with_line n s o.base o.pages (fields_of o)
    → (new ≡ s ++ object_line o) × (length new ≤ length s + 105)
object_put o n s new h e =
    let r = le-leb (length s + 105) n h in
    let line : List ℕ = answer_line o.base o.pages (fields_of o) in
    rw (e, r, ← line_is o) (refl, omega (arith, length-append s line, answer_length o.base o.pages (fields_of o)))

-- texts behind s
pub texts_are : (s : List ℕ) (n : ℕ) (f : ℕ → List ℕ) → texts_behind s n f ≡ s ++ texts n f
unfolding texts texts_behind
texts_are s zero f = sym (append-nil s)
texts_are s (suc n) f = rw (texts_are s n f) (append_assoc s (texts n f) (f n))

-- the passwords that are not 0
sum_front : (n : ℕ) (f : ℕ → ℕ) → f 0 + total n (λ k. f (suc k)) ≡ total (suc n) f
unfolding total
sum_front zero f = omega arith
sum_front (suc n) f = omega (arith, sum_front n f)

sum_of : List Password → ℕ
sum_of ps = total (length ps) (λ k. one_for (get_or ps k no_password).word)

one_more : (b : Bool) (n : ℕ) → cond b 0 1 + n ≡ cond (not b) (1 + n) n
one_more true n = omega arith
one_more false n = refl

sum_counts : (ps : List Password) → sum_of ps ≡ count_by (λ p. not (eqb p.word 0)) ps
unfolding sum_of total
sum_counts =
    is_count_by sum_of (λ p. not (eqb p.word 0)) refl
    (λ p ps. sym (sum_front (length ps) (λ k. one_for (get_or (p ∷ ps) k no_password).word)) ∙ one_more (eqb p.word 0) (sum_of ps))

pub passwords_counted : (o : Object) → length o.passwords ≡ 4 → count_by (λ p. not (eqb p.word 0)) o.passwords ≡ password_count o
unfolding password_count sum_of
passwords_counted o h = sym (rw h at (sum_counts o.passwords))

-- one text more
pub texts_more : (n : ℕ) (f : ℕ → List ℕ) → texts n f ++ f n ≡ texts (n + 1) f
unfolding texts
texts_more n f = rw (add-one n)

-- texts of nothing
texts_none : (n : ℕ) (f : ℕ → List ℕ) → ((i : ℕ) → i < n → f i ≡ []) → texts n f ≡ []
unfolding texts
texts_none zero f h = refl
texts_none (suc n) f h = rw (texts_none n f (λ i l. h i (omega arith)), h n (omega arith))

-- WITHOUT OBJECTS the header alone is printed
pub listing_none : (t : Table) → ((d k : ℕ) → d < 4 → k < 8 → (object_at (estate_at t d) k).pages ≡ 0) → listing t ≡ header
unfolding listing estate_lines
listing_none t h = rw (none 0 (omega arith), none 1 (omega arith), none 2 (omega arith), none 3 (omega arith)) refl
  where
    none : (d : ℕ) → d < 4 → estate_lines (estate_at t d) ≡ []
    none d l = texts_none 8 _ (λ k m. rw (eq-eqb _ 0 (h d k l m)))
