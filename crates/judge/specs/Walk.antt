-- The walk over verdicts that remembers the first grant and stops at the first denial: what its loops know.
use Rattle.std.specs.Prelude.{ℕ, Option, ◌+◌, ◌/◌, ◌-◌, ◌<◌, ◌≤◌, ◌≡◌, refl, true, false, cond, List, length, Some, None, Ok, Err}
use Rattle.std.proofs.Common.{ap, sym, ◌∙◌, true≢false, ⊎_elim, arith}
use Rattle.bounded.specs.Search.{first, Searching, start, next, stop, over, along, first_cases, first_none, first_step, first_end}
use Rattle.std.specs.Option.{option_or}
use Rattle.state.specs.declared.Object.{Object}
use Rattle.judge.specs.Search.{the_denial}
use Rattle.judge.specs.Search.{pair_verdict, granting, denying, list_first}
use Rattle.judge.specs.Search.{Verdict}

-- what a Clist by itself says: denied where one of its pairs denies, else granted by its first granting pair
unfoldable pub list_verdict : List ℕ → ℕ → Object → ℕ → Verdict
list_verdict list start o wanted = cond (denying (list_first denying list start o wanted)) (Err the_denial) (list_first granting list start o wanted)

-- a verdict that denies is the denial
denial_is : (v : Verdict) → denying v ≡ true → v ≡ Err the_denial
denial_is (Ok (Some at)) h = absurd (true≢false (sym h))
denial_is (Err d) h = refl
denial_is (Ok None) h = absurd (true≢false (sym h))

-- what was found stays; where nothing was, it is the next verdict
abbrev pub or_else : Verdict → Verdict → Verdict
or_else (Ok (Some at)) v = Ok (Some at)
or_else (Err d) v = Err d
or_else (Ok None) v = v

-- where neither denies, it is the first of the two that grants
pub or_found : (found next : Option ℕ) → or_else (Ok found) (Ok next) ≡ Ok (option_or found next)
or_found (Some at) next = refl
or_found None next = refl

or_nothing : (v : Verdict) → or_else v (Ok None) ≡ v
or_nothing (Ok (Some at)) = refl
or_nothing (Err d) = refl
or_nothing (Ok None) = refl

or_then : (v w rest : Verdict) → denying w ≡ false → or_else v (cond (granting w) w rest) ≡ or_else (or_else v w) rest
or_then (Ok (Some at)) w rest h = refl
or_then (Err d) w rest h = refl
or_then (Ok None) (Ok (Some at)) rest h = refl
or_then (Ok None) (Err d) rest h = absurd (true≢false h)
or_then (Ok None) (Ok None) rest h = refl

-- the first of `n` verdicts that grants
abbrev first_grant : (ℕ → Verdict) → ℕ → ℕ → Verdict
first_grant g i n = first (λ k. granting (g k)) g (Ok None) i n

-- what `n` places say, of which place k denies by `d k` and grants by `g k`
abbrev outcome : (ℕ → Verdict) → (ℕ → Verdict) → ℕ → Verdict
outcome d g n = cond (denying (first (λ k. denying (d k)) d (Ok None) 0 n)) (Err the_denial) (first_grant g 0 n)

-- no place before place i denies, and `found` is the first grant among them
pub record Walking (d g : ℕ → Verdict) (n i : ℕ) (found : Verdict) : Type 0 where
  pub undenied : Searching (λ k. denying (d k)) d (Ok None) n i
  pub granted : first_grant g 0 n ≡ or_else found (first_grant g i (n - i))

module _ {d g : ℕ → Verdict} {n : ℕ} where
  pub walk_start : Walking d g n 0 (Ok None)
  walk_start = record { undenied = start; granted = let e : n - 0 ≡ n = omega arith in rw e }

  module _ {i : ℕ} {found : Verdict} (w : Walking d g n i found) where
    pub walk_next : i < n → denying (d i) ≡ false → denying (g i) ≡ false → Walking d g n (i + 1) (or_else found (g i))
    walk_next l h k =
        record {
          undenied = next w.undenied l h;
          granted = w.granted ∙ ap (or_else found) (first_step _ g (Ok None) i n l) ∙ or_then found (g i) _ k;
        }

    pub walk_stop : (v : Verdict) → i < n → denying (d i) ≡ true → denying v ≡ true → v ≡ outcome d g n
    walk_stop v l h k = denial_is v k ∙ rw (← stop w.undenied l h, h)

    pub walk_over : n ≤ i → found ≡ outcome d g n
    walk_over l = rw (← over w.undenied l) (sym (w.granted ∙ ap (or_else found) (first_end _ g (Ok None) i n l) ∙ or_nothing found))

  -- places that say nothing
  pub walk_skip : {i : ℕ} {found : Verdict} (j : ℕ) → Walking d g n i found → i ≤ j → j ≤ n
      → ((k : ℕ) → i ≤ k → k < j → (d k ≡ Ok None) × (g k ≡ Ok None)) → Walking d g n j found
  walk_skip {i} {found} j w a b silent = along (λ k. Walking d g n k found) w passed a
    where
      passed : (k : ℕ) → i ≤ k → k < j → Walking d g n k found → Walking d g n (k + 1) found
      passed k from to x =
          let q = silent k from to in
          rw (← or_nothing found) (rw q.1 at (walk_next x (omega arith) (rw q.0 refl) (rw q.1 refl)))

-- what a Clist grants is no denial
pub grant_undenied : (list : List ℕ) (start : ℕ) (o : Object) (wanted : ℕ) → denying (list_first granting list start o wanted) ≡ false
unfolding list_first
grant_undenied list start o wanted =
    ⊎_elim (λ r. alone (first_grant pair 0 pairs) (ap granting (sym r.there) ∙ r.holds))
    (λ n. rw (first_none (λ k. granting (pair k)) pair (Ok None) 0 pairs n) refl) (first_cases (λ k. granting (pair k)) pair (Ok None) 0 pairs)
  where
    pairs : ℕ
    pairs = length list / 2

    pair : ℕ → Verdict
    pair = pair_verdict list start o wanted

    alone : (v : Verdict) → granting v ≡ true → denying v ≡ false
    alone (Ok (Some at)) h = refl
    alone (Err d) h = absurd (true≢false (sym h))
    alone (Ok None) h = refl
