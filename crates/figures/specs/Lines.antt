-- The figures of the accounts as text: document 02, T-05.
use Rattle.std.specs.Prelude.{ℕ, ◌+◌, ◌≤◌, ◌≡◌, refl, List, [], ◌∷◌, ◌++◌, length}
use Rattle.std.proofs.Common.{append-nil, length-append, arith, le-leb}
use Rattle.state.specs.Pages.{pages_of}
use Rattle.state.specs.declared.Table.{Table}
use Rattle.text.specs.Decimal.{decimal}
use Rattle.text.specs.Puts.{Put, put_from}
use Rattle.text.specs.Answer.{fields_text, answer_line, printed, printed_end, with_line}
use Rattle.text.specs.Size.{answer_length}

-- the line of an account: the account, a comma, its pages and a line feed
unfoldable pub figure_line : Table → ℕ → List ℕ
figure_line t a = decimal a ++ (44 ∷ decimal (pages_of t a)) ++ (10 ∷ [])

-- accounts 0 to 3
unfoldable pub figure_lines : Table → List ℕ
figure_lines t = figure_line t 0 ++ figure_line t 1 ++ figure_line t 2 ++ figure_line t 3

-- a line of two numbers is an answer line with no values
line_is : (t : Table) (a : ℕ) → answer_line a (pages_of t a) [] ≡ figure_line t a
unfolding figure_line answer_line fields_text
line_is t a = rw append-nil

-- it has at most 42 bytes, so that where there are as many it is put, behind what stands
pub line_put : (t : Table) (a : ℕ) (old : List ℕ) (at : ℕ) {new : List ℕ} {end : ℕ} → at + 42 ≤ length old
    → new ≡ printed old at a (pages_of t a) [] → end ≡ printed_end old at a (pages_of t a) [] → Put old at (figure_line t a) new end × (end ≤ at + 42)
line_put t a old at h n e =
    let r = le-leb (at + 42) (length old) h in
    (rw (n, e, r, ← line_is t a) (put_from old at (answer_line a (pages_of t a) []) (omega arith)), rw (e, r) (omega (arith, answer_length a (pages_of t a) [])))

-- behind another text, where there are as many
pub figure_put : (t : Table) (a : ℕ) (n : ℕ) (s new : List ℕ) → length s + 42 ≤ n → new ≡ with_line n s a (pages_of t a) []
    → (new ≡ s ++ figure_line t a) × (length new ≤ length s + 42)
figure_put t a n s new h e =
    let r = le-leb (length s + 42) n h in
    let line : List ℕ = answer_line a (pages_of t a) [] in
    rw (e, r, ← line_is t a) (refl, omega (arith, length-append s line, answer_length a (pages_of t a) []))
