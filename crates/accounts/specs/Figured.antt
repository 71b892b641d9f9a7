-- What the program writes: document 02, T-05.
use Rattle.std.specs.Prelude.{ℕ, ◌-◌, ◌<◌, ◌≡◌, refl, List, [], ◌∷◌, ◌++◌}
use Rattle.std.proofs.Common.{arith}
use Rattle.state.specs.Pages.{pages_of}
use Rattle.text.specs.Decimal.{decimal, digits_in}
use Rattle.stream.specs.Run.{started}
use Rattle.ending.specs.Behind.{table_behind}
use Rattle.ending.specs.Before.{NoBoot, unbooted_behind}
use Rattle.ending.specs.Ledger.{ledger_behind}
use Rattle.ending.proofs.Figure.{figure_behind}
use Rattle.ending.specs.Printed.{printed_for}
use Rattle.figures.specs.Lines.{figure_line, figure_lines}

-- WHAT THE PROGRAM WRITES for an input: the figures of the object table that the call program has behind it
abbrev pub figured : List ℕ → List ℕ
figured = printed_for figure_lines

-- what the last granted boot and the granted CRs since put on an account, less what the granted DLs took off
abbrev pub net_pages : List ℕ → ℕ → ℕ
net_pages input a = (ledger_behind a input).created - (ledger_behind a input).deleted

-- its line: the account, a comma, these pages and a line feed
abbrev pub net_line : List ℕ → ℕ → List ℕ
net_line input a = decimal a ++ (44 ∷ decimal (net_pages input a)) ++ (10 ∷ [])

net_is : (input : List ℕ) (a : ℕ) → a < 4 → pages_of (table_behind input) a ≡ net_pages input a
net_is input a l = omega (arith, figure_behind a input l)

-- WHATEVER THE INPUT, with any boots in it, the program writes for each account what was created less what was deleted
pub figured_net : (input : List ℕ) → figured input ≡ net_line input 0 ++ net_line input 1 ++ net_line input 2 ++ net_line input 3
unfolding figure_lines figure_line
figured_net input =
    rw (net_is input 0 (omega arith), net_is input 1 (omega arith), net_is input 2 (omega arith), net_is input 3 (omega arith)) refl

-- BEFORE A BOOT ALL FIGURES ARE 0: 0,0 and 1,0 and 2,0 and 3,0
pub unbooted_figured : (input : List ℕ) → NoBoot started input
    → figured input ≡ 48 ∷ 44 ∷ 48 ∷ 10 ∷ 49 ∷ 44 ∷ 48 ∷ 10 ∷ 50 ∷ 44 ∷ 48 ∷ 10 ∷ 51 ∷ 44 ∷ 48 ∷ 10 ∷ []
unfolding figure_lines figure_line decimal digits_in
unbooted_figured input n =
    let u = unbooted_behind input n in
    rw (u.figure 0 (omega arith), u.figure 1 (omega arith), u.figure 2 (omega arith), u.figure 3 (omega arith)) refl
