-- A call leaves the state, and the words, that `changed_by` does not name.
use Rattle.std.specs.Prelude.{ℕ, ◌+◌, ◌-◌, ◌*◌, ◌<◌, ◌≤◌, ◌≡◌, Bool, true, cond, not, List, ◌++◌, ◌⊎◌, ltb, eqb, length, get_or, take, drop, replicate}
use Rattle.std.proofs.Math.Path.{refl}
use Rattle.std.proofs.Common.{ap, ◌∙◌, true≢false, append_assoc, ⊎_elim, arith, length-append, length-take, get_or-take, get_or-drop, get_or-append-add}
use Rattle.std.proofs.Math.Bool.{false}
use Rattle.std.proofs.Math.Logic.{inl, inr}
use Rattle.std.proofs.Math.Dec.{leb}
use Rattle.std.proofs.lemmas.List.{length-replicate}
use Rattle.std.proofs.Math.ListN.{get_or-append}
use Rattle.std.proofs.Math.Seq.{get_or-set_other}
use borrow.Author.Tests.{leb-true, leb-false, ltb-true, lt-leb}
use Rattle.bounded.specs.Bools.{and_left}
use Rattle.soundness.specs.Laws.Tests.{all4}
use Rattle.judge.specs.Judged.{judged}
use Rattle.calls.specs.View.{World, View}
use Rattle.calls.specs.Changes.{zeroed, apply_all}
use Rattle.calls.specs.Rule.{is_page, is_account}
use Rattle.calls.specs.Rules.{rule, in_range, changes, view}
use Rattle.calls.specs.Step.{step}
use Rattle.calls.proofs.Passed.{step_cases}
use Rattle.calls.specs.declared.Call.{Call}
use Rattle.calls.specs.declared.Call.TheVariants.{OnStore, OnObject, OnDomain}
use Rattle.calls.specs.declared.Access.TheVariants.{Read, Write, Execute, Lookup}
use Rattle.calls.specs.declared.ObjectCall.TheVariants.{Create, Delete, AddPassword, DropPassword, Register}
use Rattle.calls.specs.declared.DomainCall.TheVariants.{Insert, Remove, Get, Lock, PdxCall, PdxReturn}
use Rattle.byte_calls.specs.Changed.{only_state, changed_by, page_start, page_end}

-- outside the run that a call names
abbrev pub Beside : Call → ℕ → Type 0
Beside c j = (j < (changed_by c).from) ⊎ ((changed_by c).to ≤ j)

-- the run lies in the store
start_within : (p : ℕ) → page_start p ≤ 8192
start_within p = go (leb 128 p) refl
  where
    go : (b : Bool) → leb 128 p ≡ b → cond b 8192 (64 * p) ≤ 8192
    go true e = omega arith
    go false e = omega (arith, leb-false 128 p e)

pub run_within : (c : Call) → (changed_by c).to ≤ 8192
run_within (OnStore (Read a)) = omega arith
run_within (OnStore (Write a x)) = go (leb 8192 a) refl
  where
    go : (b : Bool) → leb 8192 a ≡ b → (cond b (only_state false) (record { state = false; from = a; to = a + 1 })).to ≤ 8192
    go true e = omega arith
    go false e = omega (arith, leb-false 8192 a e)
run_within (OnStore (Execute a)) = omega arith
run_within (OnStore (Lookup a r)) = omega arith
run_within (OnObject (Create p n k a)) = go (leb 128 p) (leb 128 n)
  where
    go : (a b : Bool) → cond a 8192 (cond b 8192 (page_start (p + n))) ≤ 8192
    go true b = omega arith
    go false true = omega arith
    go false false = start_within (p + n)
run_within (OnObject (Delete b)) = omega arith
run_within (OnObject (AddPassword b k m)) = omega arith
run_within (OnObject (DropPassword b k)) = omega arith
run_within (OnObject (Register b k l es)) = omega arith
run_within (OnDomain (Insert i l)) = omega arith
run_within (OnDomain (Remove i)) = omega arith
run_within (OnDomain Get) = omega arith
run_within (OnDomain (Lock i)) = omega arith
run_within (OnDomain (PdxCall a ch)) = omega arith
run_within (OnDomain PdxReturn) = omega arith

-- a word that is not zeroed stays
zeroed_beside : (a n : ℕ) (ws : List ℕ) (j : ℕ) → a ≤ length ws → (j < a) ⊎ (a + n ≤ j) → get_or (zeroed a n ws) j 0 ≡ get_or ws j 0
unfolding zeroed
zeroed_beside a n ws j l (inl h) = get_or-append (take a ws) _ 0 j (rw length-take (omega arith)) ∙ get_or-take a ws j 0 h
zeroed_beside a n ws j l (inr h) =
    let zero : ℕ = 0 in
    let e : length (take a ws ++ replicate n zero) ≡ a + n = simp (length-append, length-take, length-replicate) (omega arith) in
    rw (← append_assoc) (behind (take a ws ++ replicate n zero) e)
  where
    behind : (p : List ℕ) → length p ≡ a + n → get_or (p ++ drop (a + n) ws) j 0 ≡ get_or ws j 0
    behind p e =
        let k : j ≡ length p + (j - (a + n)) = omega arith in
        let m : a + n + (j - (a + n)) ≡ j = omega arith in
        ap (λ i. get_or (p ++ drop (a + n) ws) i 0) k ∙ get_or-append-add p (drop (a + n) ws) (j - (a + n)) 0
        ∙ get_or-drop (a + n) ws (j - (a + n)) 0 ∙ ap (λ i. get_or ws i 0) m

-- where a run of pages that is in range ends: at its last word, or the store ends before
end_beside : (p n j : ℕ) → p < 128 → n ≤ 32 → j < 8192 → page_end p n ≤ j → 64 * p + 64 * n ≤ j
end_beside p n j hp hn h b =
    let o : leb 128 p ≡ false = lt-leb 128 p hp in
    let q : n < 128 = omega arith in
    go (leb 128 (p + n)) refl (rw (o, lt-leb 128 n q) at b)
  where
    go : (t : Bool) → leb 128 (p + n) ≡ t → cond t 8192 (64 * (p + n)) ≤ j → 64 * p + 64 * n ≤ j
    go true e k = absurd (omega arith)
    go false e k = omega arith

write_beside : (a x j : ℕ) → a < 8192 → Beside (OnStore (Write a x)) j → j ≡ a → ⊥
write_beside a x j h b e =
    let o : leb 8192 a ≡ false = lt-leb 8192 a h in
    ⊎_elim (λ l. omega (arith, e, l)) (λ l. omega (arith, e, l)) (rw o at b)

module _ (w : World) (d : ℕ) (v : View) where
  create_beside : (p n k a j : ℕ) → length w.words ≡ 8192 → in_range (OnObject (Create p n k a)) ≡ true → j < 8192 → Beside (OnObject (Create p n k a)) j
      → get_or (apply_all (changes d (OnObject (Create p n k a)) v) w).words j 0 ≡ get_or w.words j 0
  unfolding changes in_range rule
  create_beside p n k a j l r h b =
      let (page, some, most, word) = all4 (is_page p) (ltb 0 n) (leb n 32) (not (eqb k 0)) (and_left _ (is_account a) r) in
      let hp : p < 128 = ltb-true p 128 page in
      let hn : n ≤ 32 = leb-true n 32 most in
      let o : leb 128 p ≡ false = lt-leb 128 p hp in
      zeroed_beside (64 * p) (64 * n) w.words j (omega (arith, l)) (⊎_elim (λ x. inl (rw o at x)) (λ x. inr (end_beside p n j hp hn h x)) b)

  -- what a done call leaves
  words_beside : (c : Call) (j : ℕ) → length w.words ≡ 8192 → in_range c ≡ true → j < 8192 → Beside c j
      → get_or (apply_all (changes d c v) w).words j 0 ≡ get_or w.words j 0
  unfolding changes in_range rule
  words_beside (OnStore (Read a)) j l r h b = refl
  words_beside (OnStore (Write a x)) j l r h b = get_or-set_other w.words a j x 0 (write_beside a x j (ltb-true a 8192 r) b)
  words_beside (OnStore (Execute a)) j l r h b = refl
  words_beside (OnStore (Lookup a x)) j l r h b = refl
  words_beside (OnObject (Create p n k a)) j l r h b = create_beside p n k a j l r h b
  words_beside (OnObject (Delete x)) j l r h b = refl
  words_beside (OnObject (AddPassword x k m)) j l r h b = refl
  words_beside (OnObject (DropPassword x k)) j l r h b = refl
  words_beside (OnObject (Register x k p es)) j l r h b = refl
  words_beside (OnDomain (Insert i p)) j l r h b = refl
  words_beside (OnDomain (Remove i)) j l r h b = refl
  words_beside (OnDomain Get) j l r h b = refl
  words_beside (OnDomain (Lock i)) j l r h b = refl
  words_beside (OnDomain (PdxCall a x)) j l r h b = refl
  words_beside (OnDomain PdxReturn) j l r h b = refl

  state_beside : (c : Call) → (changed_by c).state ≡ false → (apply_all (changes d c v) w).state ≡ w.state
  unfolding changes rule
  state_beside (OnStore (Read a)) e = refl
  state_beside (OnStore (Write a x)) e = refl
  state_beside (OnStore (Execute a)) e = refl
  state_beside (OnStore (Lookup a x)) e = refl
  state_beside (OnDomain Get) e = refl
  state_beside (OnObject (Create p n k a)) e = absurd (true≢false e)
  state_beside (OnObject (Delete x)) e = absurd (true≢false e)
  state_beside (OnObject (AddPassword x k m)) e = absurd (true≢false e)
  state_beside (OnObject (DropPassword x k)) e = absurd (true≢false e)
  state_beside (OnObject (Register x k p es)) e = absurd (true≢false e)
  state_beside (OnDomain (Insert i p)) e = absurd (true≢false e)
  state_beside (OnDomain (Remove i)) e = absurd (true≢false e)
  state_beside (OnDomain (Lock i)) e = absurd (true≢false e)
  state_beside (OnDomain (PdxCall a x)) e = absurd (true≢false e)
  state_beside (OnDomain PdxReturn) e = absurd (true≢false e)

module _ (w : World) (d : ℕ) (c : Call) where
  -- a call that does not change the state leaves it
  pub state_left : (changed_by c).state ≡ false → (step w d c).outcome.state ≡ w.state
  state_left e = ⊎_elim (λ r. rw r.1) (λ r. rw r.1.1 (state_beside w d (view judged w d c) c e)) (step_cases w d c)

  -- the words outside the run stay
  pub words_left : (j : ℕ) → j < 8192 → Beside c j → get_or (step w d c).words j 0 ≡ get_or w.words j 0
  words_left j h b =
      ⊎_elim (λ r. rw r.1) (λ r. rw r.1.1 (words_beside w d (view judged w d c) c j r.1.0.long r.1.0.range h b)) (step_cases w d c)
