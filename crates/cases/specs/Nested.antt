-- The fault that this monitor replaces: a nested PDX call was refused, and its caller stayed extended. In these runs domain 0
-- enters a procedure of domain 1, and a further call from inside is refused, once for each refusal that a PDX call can have.
use Rattle.std.specs.Prelude.{ℕ, ◌≡◌, refl, Bool, true, false, ◌&&◌, List, [], ◌∷◌, ◌++◌, map, eqb, replicate}
use Rattle.std.proofs.Common.{◌∙◌}
use Rattle.bounded.specs.Fill.{tabulate}
use Rattle.state.specs.Places.{slot_at, saved_at, domain_at}
use Rattle.state.specs.declared.Domain.{Domain}
use Rattle.state.specs.declared.Frame.{Frame}
use Rattle.judge.specs.Search.{searched}
use Rattle.judge.specs.Judged.{judged}
use Rattle.calls.specs.View.{World, Judging}
use Rattle.calls.specs.Changes.{flag}
use Rattle.calls.specs.Step.{world_of}
use Rattle.calls.specs.Laws.Booted.{boot_sound}
use Rattle.cases.specs.Runs.{Exchange, by, answers, expected, after, answers_by, after_by, answers_are, after_is, map_same, by_search}
use Rattle.cases.specs.Marked.{listing_boot, listing, registered}
use Rattle.calls.specs.declared.Call.TheVariants.{OnStore, OnDomain}
use Rattle.calls.specs.declared.Access.TheVariants.{Write}
use Rattle.calls.specs.declared.DomainCall.TheVariants.{Lock, PdxCall, PdxReturn}

-- inside the procedure its page 33 may be written
abbrev pub inside : List Exchange
inside = listing ++ registered ++ by 0 (OnDomain (PdxCall 2112 0)) (0 ∷ 2112 ∷ []) ∷ by 0 (OnStore (Write 2113 1)) (0 ∷ 0 ∷ []) ∷ []

abbrev pub deeper : List Exchange
deeper = by 0 (OnDomain (PdxCall 2112 0)) (0 ∷ 2112 ∷ []) ∷ []

-- back outside it may not
abbrev pub back : List Exchange
back = by 0 (OnDomain PdxReturn) (0 ∷ 0 ∷ []) ∷ []

abbrev pub outside : List Exchange
outside = by 0 (OnStore (Write 2113 2)) (7 ∷ 0 ∷ []) ∷ []

-- a run up to a nested call, the call, and the exchanges behind it
pub record Nested : Type 0 where
  pub before : List Exchange
  pub call : Exchange
  pub after : List Exchange

abbrev pub whole : Nested → List Exchange
whole n = n.before ++ n.call ∷ n.after

abbrev pub nested : List Nested
nested =
    -- 5: no such address, no such choice
    record { before = inside; call = by 0 (OnDomain (PdxCall 8192 0)) (5 ∷ 0 ∷ []); after = back ++ outside }
    ∷ record { before = inside; call = by 0 (OnDomain (PdxCall 2112 2)) (5 ∷ 0 ∷ []); after = back ++ outside }
    -- 6: under the whole lock
    ∷ record { before = inside ++ by 0 (OnDomain (Lock 255)) (0 ∷ 0 ∷ []) ∷ []; call = by 0 (OnDomain (PdxCall 2112 0)) (6 ∷ 0 ∷ []); after = back ++ outside }
    -- 7: no object there
    ∷ record { before = inside; call = by 0 (OnDomain (PdxCall 4096 0)) (7 ∷ 0 ∷ []); after = back ++ outside }
    -- 8: no entry
    ∷ record { before = inside; call = by 0 (OnDomain (PdxCall 2113 0)) (8 ∷ 0 ∷ []); after = back ++ outside }
    -- 11: four domains are saved
    ∷ record {
      before = inside ++ deeper ++ deeper ++ deeper;
      call = by 0 (OnDomain (PdxCall 2112 0)) (11 ∷ 0 ∷ []);
      after = back ++ back ++ back ++ back ++ outside;
    }
    ∷ []

-- all the numbers of a protection domain: each frame's slot count, locked count, whole lock and slots, and how many are saved
abbrev pub frame_numbers : Frame → List ℕ
frame_numbers f = f.count ∷ f.locked ∷ flag f.whole ∷ tabulate 8 (λ k. (slot_at f k).page) ++ tabulate 8 (λ k. (slot_at f k).password)

abbrev pub domain_numbers : Domain → List ℕ
domain_numbers m =
    m.depth
    ∷ frame_numbers m.active
    ++ frame_numbers (saved_at m 0)
    ++ frame_numbers (saved_at m 1)
    ++ frame_numbers (saved_at m 2)
    ++ frame_numbers (saved_at m 3)

-- the caller's slots, locks and saved domains
abbrev pub caller : World → List ℕ
caller w = domain_numbers (domain_at w.state 0)

answers_computed : map (λ (n : Nested). answers_by searched (world_of listing_boot) (whole n)) nested ≡ map (λ (n : Nested). expected (whole n)) nested
unfolding answers_by
answers_computed = refl

-- every line is answered as it says: the page is written inside, the nested call refused, the write after the return refused
pub nested_answers : map (λ (n : Nested). answers (world_of listing_boot) (whole n)) nested ≡ map (λ (n : Nested). expected (whole n)) nested
nested_answers =
    map_same _ _ (λ n. answers_are (world_of listing_boot) (boot_sound _ _ _) (whole n)) nested
    ∙ by_search (λ j. map (λ (n : Nested). answers_by j (world_of listing_boot) (whole n)) nested ≡ map (λ (n : Nested). expected (whole n)) nested) answers_computed

abbrev pub same_numbers : List ℕ → List ℕ → Bool
same_numbers [] [] = true
same_numbers [] (y ∷ ys) = false
same_numbers (x ∷ xs) [] = false
same_numbers (x ∷ xs) (y ∷ ys) = eqb x y && same_numbers xs ys

-- whether the nested call leaves the caller's slots, locks and saved domains as they were
abbrev pub unchanged : Nested → Bool
unchanged n =
    let w = after (world_of listing_boot) n.before in
    let w' = after (world_of listing_boot) (n.before ++ n.call ∷ []) in
    same_numbers (caller w) (caller w')

-- the same, as it is computed
abbrev pub unchanged_by : Judging → Nested → Bool
unchanged_by judging n =
    let w = after_by judging (world_of listing_boot) n.before in
    let w' = after_by judging (world_of listing_boot) (n.before ++ n.call ∷ []) in
    same_numbers (caller w) (caller w')

unchanged_computed : map (unchanged_by searched) nested ≡ replicate 6 true
unfolding after_by
unchanged_computed = refl

unchanged_is : (n : Nested) → unchanged n ≡ unchanged_by judged n
unchanged_is n =
    rw (
      after_is (world_of listing_boot) (boot_sound _ _ _) n.before,
      after_is (world_of listing_boot) (boot_sound _ _ _) (n.before ++ n.call ∷ []),
    )

pub nested_unchanged : map unchanged nested ≡ replicate 6 true
nested_unchanged = map_same _ _ unchanged_is nested ∙ by_search (λ j. map (unchanged_by j) nested ≡ replicate 6 true) unchanged_computed
