-- The conclusion as tests that compute, and laws that it makes each of them true; so a false test refutes it.
use Rattle.std.specs.Prelude.{ℕ, suc, ◌+◌, ◌*◌, ◌/◌, ◌<◌, ◌≡◌, refl, Bool, true, false, not, ◌&&◌, ◌||◌, List, [], ◌∷◌, ◌++◌, eqb, get_or, drop}
use Rattle.std.proofs.Common.{arith, get_or-drop, eq-eqb}
use Rattle.std.proofs.lemmas.Bool.{not-false}
use Rattle.bounded.specs.Bools.{and_both, or_unless}
use Rattle.bounded.specs.Every.{below, below_all}
use Rattle.bounded.specs.Fill.{tabulate}
use Rattle.state.specs.Places.{password_at, entry_at, object_at, estate_at, domain_at}
use Rattle.state.specs.declared.Object.{Object}
use Rattle.state.specs.declared.Estate.{Estate}
use Rattle.judge.specs.Judged.{judged}
use Rattle.calls.specs.View.{World, Judging}
use Rattle.calls.specs.Laws.Booted.{boot_sound}
use Rattle.cases.specs.Nested.{domain_numbers, same_numbers}
use Rattle.isolation.specs.Group.{Group, member, inside_address}
use Rattle.isolation.specs.Runs.{Run, start_of}
use Rattle.isolation.specs.Claim.{SameInside, Isolated}
use Rattle.isolation_examples.specs.Tests.{trace_of, testing}
use Rattle.isolation_examples.specs.Decided.{trace_answers, trace_last}

-- THE TESTS. The same answers
unfoldable pub same_answers : List (List ℕ) → List (List ℕ) → Bool
same_answers [] [] = true
same_answers [] (y ∷ ys) = false
same_answers (x ∷ xs) [] = false
same_answers (x ∷ xs) (y ∷ ys) = same_numbers x y && same_answers xs ys

-- the same first n words
unfoldable pub same_for : ℕ → List ℕ → List ℕ → Bool
same_for ℕ.zero ws ws' = true
same_for (suc n) ws ws' = eqb (get_or ws 0 0) (get_or ws' 0 0) && same_for n (drop 1 ws) (drop 1 ws')

-- a test of each member
abbrev pub each_member : Group → (ℕ → Bool) → Bool
each_member G test = below 4 (λ d. not (member G d) || test d)

unfoldable pub words_test : Group → World → World → Bool
words_test G w w' = each_member G (λ d. same_for 2048 (drop (2048 * d) w.words) (drop (2048 * d) w'.words))

-- the same estate, place by place: all the numbers of each object
abbrev pub object_numbers : Object → List ℕ
object_numbers o =
    o.base ∷ o.pages ∷ o.account
    ∷ o.registration.password ∷ o.registration.list.page ∷ o.registration.list.password ∷ o.registration.count
    ∷ tabulate 4 (entry_at o)
    ++ tabulate 4 (λ k. (password_at o k).word)
    ++ tabulate 4 (λ k. (password_at o k).mode)

unfoldable pub estate_test : Estate → Estate → Bool
estate_test e e' = below 8 (λ k. same_numbers (object_numbers (object_at e k)) (object_numbers (object_at e' k)))

unfoldable pub estates_test : Group → World → World → Bool
estates_test G w w' = each_member G (λ d. estate_test (estate_at w.state.table d) (estate_at w'.state.table d))

-- the same slots, locks and saved domains: all the numbers of each domain
unfoldable pub domains_test : Group → World → World → Bool
domains_test G w w' = each_member G (λ d. same_numbers (domain_numbers (domain_at w.state d)) (domain_numbers (domain_at w'.state d)))

-- the parts of the conclusion for two runs
pub record Parts : Type 0 where
  pub answers : Bool
  pub words : Bool
  pub estates : Bool
  pub domains : Bool

abbrev pub parts_of : Group → List (List ℕ) → List (List ℕ) → World → World → Parts
parts_of G a a' w w' =
    record {
      answers = same_answers a a';
      words = words_test G w w';
      estates = estates_test G w w';
      domains = domains_test G w w';
    }

abbrev pub all_same : Parts
all_same = record { answers = true; words = true; estates = true; domains = true }

-- THE LAWS
numbers_same : (xs : List ℕ) → same_numbers xs xs ≡ true
numbers_same [] = refl
numbers_same (x ∷ xs) = and_both (eq-eqb x x refl) (numbers_same xs)

answers_same : (xs : List (List ℕ)) → same_answers xs xs ≡ true
unfolding same_answers
answers_same [] = refl
answers_same (x ∷ xs) = and_both (numbers_same x) (answers_same xs)

words_same : (n : ℕ) (ws ws' : List ℕ) → ((i : ℕ) → i < n → get_or ws i 0 ≡ get_or ws' i 0) → same_for n ws ws' ≡ true
unfolding same_for
words_same ℕ.zero ws ws' h = refl
words_same (suc n) ws ws' h =
    and_both (eq-eqb _ _ (h 0 (omega arith)))
    (words_same n (drop 1 ws) (drop 1 ws') (λ i l. rw (get_or-drop 1 ws i 0, get_or-drop 1 ws' i 0) (h (1 + i) (omega arith))))

module _ (G : Group) where
  each_member_lem : (test : ℕ → Bool) → ((d : ℕ) → member G d ≡ true → test d ≡ true) → each_member G test ≡ true
  each_member_lem test h = below_all 4 _ (λ d l. or_unless (not (member G d)) _ (λ e. h d (not-false _ e)))

  address_of : (d i : ℕ) → i < 2048 → member G d ≡ true → inside_address G (2048 * d + i) ≡ true
  address_of d i l m = let e : (2048 * d + i) / 64 / 32 ≡ d = omega arith in rw e m

estate_same : (e : Estate) → estate_test e e ≡ true
unfolding estate_test
estate_same e = below_all 8 _ (λ k l. numbers_same (object_numbers (object_at e k)))

inside_words : (G : Group) (w w' : World) → SameInside G w w' → words_test G w w' ≡ true
unfolding words_test
inside_words G w w' s =
    each_member_lem G _
    (λ d m. words_same 2048 _ _
    (λ i l. rw (get_or-drop (2048 * d) w.words i 0, get_or-drop (2048 * d) w'.words i 0) (s.words (2048 * d + i) (address_of G d i l m))))

inside_estates : (G : Group) (w w' : World) → SameInside G w w' → estates_test G w w' ≡ true
unfolding estates_test
inside_estates G w w' s = each_member_lem G _ (λ d m. rw (s.estates d m) (estate_same _))

inside_domains : (G : Group) (w w' : World) → SameInside G w w' → domains_test G w w' ≡ true
unfolding domains_test
inside_domains G w w' s = each_member_lem G _ (λ d m. rw (s.domains d m) (numbers_same (domain_numbers (domain_at w'.state d))))

same_parts : (G : Group) (a a' : List (List ℕ)) (w w' : World) → a ≡ a' → SameInside G w w' → parts_of G a a' w w' ≡ all_same
same_parts G a a' w w' e s =
    rw (e, answers_same a', inside_words G w w' s, inside_estates G w w' s, inside_domains G w w' s)

-- the parts, computed
abbrev pub parts_by : Judging → Group → Run → Run → Parts
parts_by judging G r r' =
    let t = trace_of judging G r in let t' = trace_of judging G r' in parts_of G t.answers t'.answers t.last t'.last

-- where the conclusion holds every part is the same
pub parts_hold : (G : Group) (r r' : Run) → Isolated G r r' → parts_by judged G r r' ≡ all_same
parts_hold G r r' i =
    rw (
      trace_answers G (start_of r) (boot_sound _ _ _) r.events,
      trace_answers G (start_of r') (boot_sound _ _ _) r'.events,
      trace_last G (start_of r) (boot_sound _ _ _) r.events,
      trace_last G (start_of r') (boot_sound _ _ _) r'.events,
    )
    (same_parts G _ _ _ _ i.same_answers i.same_inside)

-- unfolding it unfolds all that the tests of this module compute with
unfoldable pub comparing : ℕ
unfolding testing same_answers same_for words_test estate_test estates_test domains_test
comparing = 0
