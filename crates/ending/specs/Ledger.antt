-- The ledger of an account along an input, with any boots in it: document 02, T-05. What the figure of the account is made of.
use Rattle.std.specs.Prelude.{ℕ, ◌+◌, ◌≡◌, refl, true, cond, eqb, Ok, Err}
use mathlib.Core.List.{List, [], ◌∷◌}
use Rattle.std.proofs.Common.{arith, ne_eqb}
use Rattle.state.specs.Pages.{pages_of}
use Rattle.calls.specs.Answers.{refusal_number, number_of}
use Rattle.calls.specs.View.{World}
use Rattle.calls.specs.Step.{step}
use Rattle.calls.specs.Runs.{Event}
use Rattle.calls.specs.Boot.{home_pages, boot}
use Rattle.calls.specs.Laws.Order.{refusal_number_lem}
use Rattle.calls.proofs.Sound.{step_sound}
use Rattle.calls.specs.Laws.Booted.{boot_done, boot_sound}
use Rattle.calls.specs.Answers.{Answer}
use Rattle.runs.specs.Ledger.{new_pages, gone_pages, granted}
use Rattle.runs.specs.Laws.Figure.{step_figure}
use Rattle.runs.specs.Laws.Ledger.{boot_figure}
use Rattle.soundness.specs.Sound.{sound}
use Rattle.lines.specs.Grammar.{line_of}
use Rattle.lines.specs.Reading.{Reading, answered, boot_by, call_by}
use Rattle.replies.specs.Reply.{reply, state_after}
use Rattle.stream.specs.Run.{Progress, on_byte, started}

-- since the last granted boot: the pages that it and the granted CRs put on the account, and those that the granted DLs took off
pub record Ledger : Type 0 where
  pub created : ℕ
  pub deleted : ℕ

abbrev pub pages : ℕ → ℕ → Ledger
pages created deleted = record { created = created; deleted = deleted }

-- what a line adds, on the world that it finds: a granted boot begins anew with the home pages, a granted call adds what it creates and
-- what it deletes, and all else adds nothing
unfoldable pub booked : ℕ → World → Reading → Ledger → Ledger
booked a w (answered n) l = l
booked a w (boot_by d plan) l = cond (eqb (number_of (boot w.words d plan).outcome.answer) 0) (pages (home_pages plan a) 0) l
booked a w (call_by d c) l =
    pages (l.created + cond (granted w (record { domain = d; call = c })) (new_pages a c) 0)
    (l.deleted + cond (granted w (record { domain = d; call = c })) (gone_pages a w.state.table c) 0)

-- a byte: a line feed books the line that it ends
abbrev pub booked_byte : ℕ → Progress → ℕ → Ledger → Ledger
booked_byte a r b l = cond (eqb b 10) (booked a r.world (line_of r.line) l) l

unfoldable pub booked_from : ℕ → Progress → List ℕ → Ledger → Ledger
booked_from a r [] l = l
booked_from a r (b ∷ bs) l = booked_from a (on_byte r b) bs (booked_byte a r b l)

-- THE LEDGER BEHIND AN INPUT; before a boot it is empty
unfoldable pub ledger_behind : ℕ → List ℕ → Ledger
ledger_behind a input = booked_from a started input (pages 0 0)

-- the state is sound, and the figure with what was deleted is what was created
pub record Balanced (a : ℕ) (w : World) (l : Ledger) : Type 0 where
  pub is_sound : sound w.state ≡ true
  pub balance : pages_of w.state.table a + l.deleted ≡ l.created

pub line_balanced : (a : ℕ) (w : World) (r : Reading) (l : Ledger) → Balanced a w l → Balanced a (reply step w r).world (booked a w r l)
unfolding reply booked
line_balanced a w (answered n) l h = h
line_balanced a w (boot_by d plan) l h = go (boot w.words d plan).outcome.answer refl
  where
    go : (x : Answer) → (boot w.words d plan).outcome.answer ≡ x
        → Balanced a
        (record { state = state_after w.state x (boot w.words d plan).outcome.state; words = (boot w.words d plan).words })
        (cond (eqb (number_of x) 0) (pages (home_pages plan a) 0) l)
    go (Ok v) e =
        record {
          is_sound = boot_sound w.words d plan;
          balance = rw (boot_done w.words d plan (rw e refl)) (omega (arith, boot_figure a plan));
        }
    go (Err why) e = rw (ne_eqb (refusal_number why) 0 (λ z. omega (arith, refusal_number_lem why))) (record { is_sound = h.is_sound; balance = h.balance })
line_balanced a w (call_by d c) l h =
    let e : Event = record { domain = d; call = c } in
    record { is_sound = step_sound w d c h.is_sound; balance = omega (arith, h.balance, step_figure a w e h.is_sound) }
