-- The boot, done or refused, leaves slots and registered lists that name pages inside.
use Rattle.std.specs.Prelude.{ℕ, suc, ◌*◌, ◌/◌, ◌≡◌, true, List, Option, Some, None}
use native.Mathlib.Omega.{arith}
use Rattle.std.proofs.lemmas.List.{get_or-replicate}
use Rattle.bounded.specs.Fill.{tabulate_at}
use Rattle.state.specs.Places.{no_estate, no_domain, empty_estate, empty_domain}
use Rattle.state.specs.Update.{only_list, new_object}
use Rattle.calls.specs.View.{first_failing}
use Rattle.calls.specs.Boot.{home_estate, home_domain, boot_state, booted, boot}
use Rattle.calls.specs.Laws.Booted.{boot_checks}
use Rattle.calls.specs.declared.Refusal.{Refusal}
use Rattle.isolation.specs.Members.{member_below}
use Rattle.isolation.specs.Group.{Group, member}
use Rattle.isolation.specs.Kept.{free_each}
use Rattle.isolation.proofs.Slots.Inside.{DomainIn, ObjectIn, EstateIn, StateIn}
use Rattle.isolation.proofs.Slots.Objects.{free_in, none_in}
use Rattle.isolation.proofs.Slots.Frames.{only_in}

module _ (G : Group) where
  -- a home
  home_in : (plan : List ℕ) (d : ℕ) → member G d ≡ true → DomainIn G (home_domain plan d)
  unfolding home_domain only_list
  home_in plan d m =
      record {
        active = only_in G _ (let e : 32 * d / 32 ≡ d = omega arith in rw e m);
        saved = λ k l. absurd (omega arith);
      }

  -- its object, and the free places beside it
  house_in : (plan : List ℕ) (d : ℕ) → EstateIn G (home_estate plan d)
  unfolding home_estate new_object
  house_in plan d ℕ.zero = λ p. absurd (omega arith)
  house_in plan d (suc k) = free_each (ObjectIn G) (free_in G) (none_in G) 7 k

  pub boot_in : (words : List ℕ) (d : ℕ) (plan : List ℕ) → StateIn G (boot words d plan).outcome.state
  unfolding boot boot_state
  boot_in words d plan = go (first_failing (boot_checks words d plan))
    where
      go : (o : Option Refusal) → StateIn G (booted plan words o).outcome.state
      go None =
          record {
            domains = λ d m. rw (tabulate_at 4 (home_domain plan) d no_domain (member_below G d m)) (home_in plan d m);
            estates = λ d m. rw (tabulate_at 4 (home_estate plan) d no_estate (member_below G d m)) (house_in plan d);
          }
      go (Some r) =
          record {
            domains = λ d m. rw (get_or-replicate 4 d empty_domain no_domain (member_below G d m))
                (record { active = λ k l. absurd (omega arith); saved = λ k l. absurd (omega arith) });
            estates = λ d m. rw (get_or-replicate 4 d empty_estate no_estate (member_below G d m)) (free_each (ObjectIn G) (free_in G) (none_in G) 8);
          }
