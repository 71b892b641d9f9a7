-- What BT leaves: a sound state, and a store of 8,192 words.
use Rattle.std.specs.Prelude.{ℕ, ◌*◌, ◌<◌, ◌≡◌, List, [], ◌∷◌, ◌↔◌, ltb, length, Option, Some, None, Ok, Err}
use Rattle.std.proofs.Math.Path.{refl, ap}
use Rattle.std.proofs.Math.Bool.{true}
use mathlib.Core.Logic.Iff
use Rattle.std.proofs.Common.{arith, length-set}
use Rattle.std.proofs.lemmas.List.{length-replicate, get_or-replicate}
use Rattle.bounded.specs.Fill.{tabulate_at}
use Rattle.bounded.specs.Search.{first}
use Rattle.state.specs.Places.{no_object, no_estate, no_domain, free_object, empty_estate, empty_domain, empty_state}
use Rattle.state.specs.Lookup.{place_above, has_room}
use Rattle.state.specs.Update.{new_object, insert_object}
use Rattle.state.specs.Laws.Extent.{apart_free, apart_sym}
use Rattle.soundness.specs.Sound.{estate_ok, domain_ok, sound}
use Rattle.soundness.specs.Laws.Frames.{only_sound}
use Rattle.soundness.specs.Laws.Domains.{active_sound, empty_domain_lem}
use Rattle.soundness.specs.Laws.Objects.{new_sound}
use Rattle.soundness.specs.Laws.Estates.{insert_sound, empty_estate_lem, empty_sound}
use Rattle.soundness.specs.Laws.StateParts.{parts_state}
use Rattle.calls.specs.Answers.{refusal_place, number_of}
use Rattle.calls.specs.View.{Check, check, first_failing}
use Rattle.calls.specs.Step.{refused, world, result_of, done_with, store_check}
use Rattle.calls.specs.Boot.{home_of, account_of, home_estate, home_domain, boot_state, home_pair, boot_words, booted, plan_ok, booted_by, boot}
use Rattle.calls.specs.Laws.Order.{ascending, AllHold, FailsFirst, none_fails, first_fails, Answering, answers_refused, answers_done}
use Rattle.calls.specs.Laws.Passed.{KeptIfRefused}
use Rattle.calls.specs.Laws.Plan.{plan_bounds, boot_accounts_sound}
use borrow.Author.Tests.{eq-eqb, lt-ltb}
use Rattle.calls.specs.Parts.{caller_of}
use Rattle.calls.specs.Laws.Returns.{caller_known, caller_unknown}
use Rattle.calls.specs.declared.Refusal.{Refusal}
use Rattle.calls.specs.declared.Refusal.TheVariants.{StoreLength, NoDomain, OutOfRange}

home_estate_lem : (plan : List ℕ) (d : ℕ) → 0 < home_of plan d → account_of plan d < 4 → estate_ok (home_estate plan d) d ≡ true
unfolding home_estate new_object insert_object place_above has_room first
home_estate_lem plan d p u =
    insert_sound empty_estate d (new_object (32 * d) 1 (home_of plan d) (account_of plan d))
    (new_sound (32 * d) 1 (home_of plan d) (account_of plan d) d (omega arith) p u (omega arith) (omega arith)) (omega arith)
    (λ j l. rw (get_or-replicate 8 j free_object no_object l) (apart_sym _ free_object (apart_free _ free_object refl))) refl (empty_estate_lem d)

home_domain_lem : (plan : List ℕ) (d : ℕ) → d < 4 → domain_ok (home_domain plan d) ≡ true
unfolding home_domain
home_domain_lem plan d l = active_sound empty_domain _ (only_sound (record { page = 32 * d; password = home_of plan d }) (omega arith)) empty_domain_lem

-- the state of a boot is sound, whatever numbers in range it is given
pub boot_state_sound : (plan : List ℕ) → plan_ok plan ≡ true → sound (boot_state plan) ≡ true
unfolding boot_state
boot_state_sound plan h =
    let b = plan_bounds plan h in
    parts_state _
    (record {
      long_estates = refl;
      long_domains = refl;
      estate = λ d l. rw (tabulate_at 4 (home_estate plan) d no_estate l) (home_estate_lem plan d (b.home d l) (b.account d l));
      domain = λ d l. rw (tabulate_at 4 (home_domain plan) d no_domain l) (home_domain_lem plan d l);
      accounts = boot_accounts_sound plan b;
    })

-- its store has 8,192 words
pub boot_words_length : (plan : List ℕ) → length (boot_words plan) ≡ 8192
unfolding boot_words home_pair
boot_words_length plan = simp (length-set, length-replicate)

-- the checks of BT: 2, 4 and 5
abbrev pub boot_checks : List ℕ → ℕ → List ℕ → List Check
boot_checks words d plan =
    store_check (world empty_state words)
    ∷ check NoDomain (ltb d 4)
    ∷ check OutOfRange (plan_ok plan)
    ∷ []

module _ (words : List ℕ) (d : ℕ) (plan : List ℕ) where
  -- BT by a caller that is known, and by one that is not
  pub boot_known : (k : ℕ) → caller_of (length words) d ≡ Ok k → booted_by words plan ≡ boot words d plan
  unfolding boot
  boot_known k h = let (e, q) = caller_known words d k h in rw (eq-eqb _ 8192 e.long, lt-ltb d 4 e.known)

  pub boot_unknown : (why : Refusal) → caller_of (length words) d ≡ Err why → refused (world empty_state words) why ≡ boot words d plan
  unfolding boot
  boot_unknown why h =
      caller_unknown (λ x. refused (world empty_state words) why ≡ booted plan words x) words d (check OutOfRange (plan_ok plan) ∷ []) why h refl

  -- they come in checking order
  pub boot_ascends : ascending (refusal_place StoreLength) (boot_checks words d plan) ≡ true
  unfolding ascending
  boot_ascends = refl

  answering : Answering (λ o. (booted plan words o).outcome.answer)
  answering = record { value = 0; done = refl; refused = λ r. refl }

  boot_said : (why : Refusal) → (boot words d plan).outcome.answer ≡ Err why ↔ first_failing (boot_checks words d plan) ≡ Some why
  unfolding boot
  boot_said why = answers_refused answering (first_failing (boot_checks words d plan)) why

  -- BT is refused exactly where one of them fails and each before it holds
  pub boot_first : (why : Refusal) → (boot words d plan).outcome.answer ≡ Err why ↔ FailsFirst (boot_checks words d plan) why
  boot_first why = Iff.trans (boot_said why) (first_fails (boot_checks words d plan) why)

  -- what `refused_changes_nothing` is for BT, which takes no state and gives the empty one
  pub boot_refused : KeptIfRefused (world empty_state words) (boot words d plan)
  unfolding boot
  boot_refused why h = rw ((boot_said why).0 h) (record { number = refl; value = refl; fields = refl; state = refl; words = refl })

  -- it is done exactly where each of them holds
  pub boot_hold : number_of (boot words d plan).outcome.answer ≡ 0 ↔ AllHold (boot_checks words d plan)
  unfolding boot
  boot_hold = Iff.trans (answers_done answering (first_failing (boot_checks words d plan))) (none_fails (boot_checks words d plan))

  -- a done one gives the state and the store of the boot, and the value 0
  pub boot_done : number_of (boot words d plan).outcome.answer ≡ 0 → boot words d plan ≡ result_of (done_with (boot_state plan) 0) (boot_words plan)
  unfolding boot
  boot_done h = ap (booted plan words) ((none_fails (boot_checks words d plan)).1 (boot_hold.0 h))

  -- its store has 8,192 words
  pub boot_long : number_of (boot words d plan).outcome.answer ≡ 0 → length (boot words d plan).words ≡ 8192
  boot_long h = rw (boot_done h) (boot_words_length plan)

  -- THE STATE THAT BT GIVES IS SOUND, done or refused
  pub boot_sound : sound (boot words d plan).outcome.state ≡ true
  unfolding boot
  boot_sound = go (first_failing (boot_checks words d plan)) refl
    where
      go : (o : Option Refusal) → first_failing (boot_checks words d plan) ≡ o → sound (booted plan words o).outcome.state ≡ true
      go None e = boot_state_sound plan ((none_fails (boot_checks words d plan)).0 e).1.1.0
      go (Some r) e = empty_sound
