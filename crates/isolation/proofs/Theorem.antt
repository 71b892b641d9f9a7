-- DEMAND 3 PROVED: the claim of Claim.antt, by the induction over a run.
use Rattle.std.specs.Prelude.{◌≡◌, Bool, get_or}
use Rattle.std.proofs.Math.Path.{refl}
use Rattle.std.proofs.Common.{sym, ap, ◌∙◌}
use mathlib.Core.List.{List, [], ◌∷◌}
use Rattle.state.specs.Places.{estate_at, domain_at}
use Rattle.calls.specs.View.{World}
use Rattle.calls.specs.Step.{world_of}
use Rattle.calls.specs.Runs.{Event, result_of, final}
use Rattle.isolation.specs.Group.{Group, member}
use Rattle.isolation.specs.Runs.{start_of, answers, members_only}
use Rattle.isolation.specs.Premises.{Along}
use Rattle.isolation.specs.Claim.{SameInside, Isolation}
use Rattle.isolation.specs.Part.{part, word_in, estate_in, domain_in}
use Rattle.isolation.specs.Induction.{last_of, answers_of, picked, Throughout, runs_alike}
use Rattle.isolation.proofs.Steps.{Asked, monitor, parted}
use Rattle.isolation.proofs.Start.{start_good, start_same}

-- the claim's runs are runs of the machine of the induction
final_is : (es : List Event) (w : World) → last_of monitor w es ≡ final w es
unfolding last_of final
final_is [] w = refl
final_is (e ∷ es) w = final_is es (world_of (result_of w e))

module _ (G : Group) where
  -- the calls of members
  abbrev by_member : Event → Bool
  by_member e = member G e.domain

  answers_are : (es : List Event) (w : World) → answers_of monitor by_member w es ≡ answers G w es
  unfolding answers_of answers
  answers_are [] w = refl
  answers_are (e ∷ es) w = rw (answers_are es (world_of (result_of w e)))

  picked_are : (es : List Event) → picked by_member es ≡ members_only G es
  unfolding picked members_only
  picked_are [] = refl
  picked_are (e ∷ es) = rw (picked_are es)

  -- and its premises are what is asked of their calls
  asked : (es : List Event) (w : World) → Along G w es → Throughout monitor (Asked G) w es
  asked [] w a = tt
  asked (e ∷ es) w a = (record { state = a.0; call = a.1.0 }, asked es (world_of (result_of w e)) a.1.1)

-- Worlds with the same part have the same words, estates and domains inside.
pub same_part : (G : Group) (w w' : World) → part G w ≡ part G w' → SameInside G w w'
same_part G w w' e =
    record {
      words = λ a i. sym (word_in G w.words a i) ∙ ap (λ x. get_or x.words a 0) e ∙ word_in G w'.words a i;
      estates = λ d m.
          sym (estate_in G w.state.table d m) ∙ ap (λ x. estate_at x.state.table d) e ∙ estate_in G w'.state.table d m;
      domains = λ d m. sym (domain_in G w d m) ∙ ap (λ x. domain_at x.state d) e ∙ domain_in G w' d m;
    }

-- THE MEMBERS OF A GROUP ARE ISOLATED FROM ITS OUTSIDERS.
pub isolation : Isolation
isolation G r r' h =
    let a =
    runs_alike (parted G) (start_of r) (start_of r') r.events r'.events (start_good G r h.booted h.apart)
    (start_good G r' h.booted' h.apart') (start_same G r r' h.booted h.booted' h.homes h.accounts)
    (rw (picked_are G r.events, picked_are G r'.events) h.calls)
    (asked G r.events (start_of r) h.premises) (asked G r'.events (start_of r') h.premises') in
    record {
      same_answers = sym (answers_are G r.events (start_of r)) ∙ a.told ∙ answers_are G r'.events (start_of r');
      same_inside =
          same_part G _ _
          (ap (part G) (sym (final_is r.events (start_of r))) ∙ a.ends ∙ ap (part G) (final_is r'.events (start_of r')));
    }
