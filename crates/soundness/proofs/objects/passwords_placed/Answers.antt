use Rattle.std.proofs.Common.{◌≡◌, ap, not, ◌||◌, ◌+◌, eqb, length, get_or, rules}
use Rattle.std.proofs.lemmas.List.Sorted.{answers_always}
use borrow.Author.Tests.{tests}
use Rattle.bounded.specs.Every.{below}
use Rattle.bounded.specs.Fill.{tabulate}
use Rattle.state.specs.Places.{password_at}
use Rattle.soundness.specs.Sound.{password_next}
use Rattle.soundness.proofs.Rows.{all_adjacent, distinct_cons}
use Rattle.soundness.proofs.objects.passwords_placed.Goals as goal
use Rattle.soundness.proofs.objects.passwords_placed.Goals.{then-is_sorted_by, else-is_sorted_by}

pub returns-then-single : goal.returns-then-single
unfolding password_next below
returns-then-single c =
    let s : c.is_sorted_by.result ≡ below 3 (λ k. not (eqb (get_or c.words-words.result k 0) 0) || eqb (get_or c.words-words.result (k + 1) 0) 0) =
    all_adjacent 0 (λ a b. not (eqb a 0) || eqb b 0) c.words-words.result 3 _ (ap length c.words-words.ensures)
    (c.is_sorted_by.ensures.cases (λ a b. not (eqb a 0) || eqb b 0) (answers_always _ _ _ (λ f a r g k. search (rules, tests)))) in
    let p : c.is_sorted_by.result ≡ below 3 (password_next c.args.o) = rw c.words-words.ensures at s in
    elim c.if-is_sorted_by.branch [
      | then-is_sorted_by w ↦
          rw (← p, w.if-is_sorted_by.true, distinct_cons c.args.o.registration.password (tabulate 4 (λ k. (password_at c.args.o k).word)))
          (rw (← c.words-words.ensures, ← w.single.ensures, ← w.value-is, c.if-single.true) c.all_distinct.ensures)
      | else-is_sorted_by w ↦ cc
    ]

pub returns-else-single : goal.returns-else-single
unfolding password_next below
returns-else-single c =
    let s : c.is_sorted_by.result ≡ below 3 (λ k. not (eqb (get_or c.words-words.result k 0) 0) || eqb (get_or c.words-words.result (k + 1) 0) 0) =
    all_adjacent 0 (λ a b. not (eqb a 0) || eqb b 0) c.words-words.result 3 _ (ap length c.words-words.ensures)
    (c.is_sorted_by.ensures.cases (λ a b. not (eqb a 0) || eqb b 0) (answers_always _ _ _ (λ f a r g k. search (rules, tests)))) in
    let p : c.is_sorted_by.result ≡ below 3 (password_next c.args.o) = rw c.words-words.ensures at s in
    elim c.if-is_sorted_by.branch [
      | then-is_sorted_by w ↦
          rw (← p, w.if-is_sorted_by.true, distinct_cons c.args.o.registration.password (tabulate 4 (λ k. (password_at c.args.o k).word)))
          (rw (← c.words-words.ensures, ← w.single.ensures, ← w.value-is, c.if-single.false))
      | else-is_sorted_by w ↦ rw (← p, w.if-is_sorted_by.false) c.if-single.false
    ]
