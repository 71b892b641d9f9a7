-- A step of the monitor, seen from the group: a member's does to the part what it does there alone, an outsider's leaves the part as it is.
use Rattle.std.specs.Prelude.{ℕ, ◌+◌, ◌*◌, ◌/◌, ◌≤◌, ◌≡◌, refl, Bool, true, false, cond, ◌&&◌, List, [], ◌∷◌, ◌++◌, leb, eqb, length, Option, Some, None}
use Rattle.std.proofs.Common.{sym, ap, ◌∙◌, ⊎_elim, arith, leb-true}
use Rattle.bounded.specs.Bools.{and_left, and_right}
use Rattle.state.specs.Places.{domain_at}
use Rattle.state.specs.Extent.{lies_in}
use Rattle.state.specs.Update.{new_object}
use Rattle.soundness.specs.Sound.{sound}
use Rattle.judge.specs.Judged.{judged}
use Rattle.calls.specs.View.{World, View, Check, check, first_failing}
use Rattle.calls.specs.Rules.{early, view, late, checks, touched, changes}
use Rattle.calls.specs.Step.{concluded, store_check, unchecked_by, unchecked, world_of, step}
use Rattle.calls.specs.Step.{answer_of}
use Rattle.calls.specs.Runs.{Event, result_of}
use Rattle.calls.specs.Laws.Passed.{Passes, Does}
use Rattle.calls.proofs.Passed.{step_cases}
use Rattle.calls.specs.Laws.Unchecked.{sound_unchecked}
use Rattle.calls.proofs.Sound.{step_sound, words_kept}
use Rattle.calls.specs.declared.Call.{Call}
use Rattle.calls.specs.declared.Call.TheVariants.{OnStore, OnObject, OnDomain}
use Rattle.calls.specs.declared.Access.TheVariants.{Read, Write, Execute, Lookup}
use Rattle.calls.specs.declared.ObjectCall.TheVariants.{Create, Delete, AddPassword, DropPassword, Register}
use Rattle.calls.specs.declared.DomainCall.TheVariants.{Insert, Remove, Get, Lock, PdxCall, PdxReturn}
use Rattle.calls.specs.declared.Refusal.{Refusal}
use Rattle.calls.specs.declared.Refusal.TheVariants.{StoreLength}
use Rattle.isolation.specs.Group.{Group, member}
use Rattle.isolation.specs.Runs.{blanked, blanked_event}
use Rattle.isolation.specs.Premises.{changes_inside, OutsiderCall, StatePremise, CallPremise}
use Rattle.isolation.specs.Part.{part, domain_in, words_length, part_part, all_in, AllOutside, all_out}
use Rattle.isolation.proofs.Charged.{ChargedApart, step_apart}
use Rattle.isolation.proofs.Seen.{view_in}
use Rattle.isolation.specs.Blanked.{unchecked_blanked}
use Rattle.isolation.specs.Induction.{Machine, SameAlone, Parted}

-- what holds in every world of a run
pub record Good (G : Group) (w : World) : Type 0 where
  pub well : sound w.state ≡ true
  pub long : length w.words ≡ 8192
  pub charged : ChargedApart G w.state

-- what is asked of a call in the world that it finds
pub record Asked (G : Group) (w : World) (e : Event) : Type 0 where
  pub state : StatePremise G w
  pub call : CallPremise G w e

-- the monitor
abbrev pub monitor : Machine World Event (List ℕ)
monitor = record { answer = λ w e. answer_of (result_of w e); after = λ w e. world_of (result_of w e) }

-- the monitor on the group's part alone, which need not pass check 3
abbrev pub lone : Group → Machine World Event (List ℕ)
lone G =
    record {
      answer = λ p e. answer_of (unchecked p e.domain e.call);
      after = λ p e. part G (world_of (unchecked p e.domain e.call));
    }

-- a good world passes check 3
pub step_good : {G : Group} (w : World) (d : ℕ) (c : Call) → Good G w → step w d c ≡ unchecked w d c
step_good w d c g = sound_unchecked w d c g.well

module _ (G : Group) (w : World) (d : ℕ) (c : Call) (v : View) where
  -- by the same checks and the same view a call answers alike in the world and in the part
  pub concluded_answer : (o : Option Refusal) → answer_of (concluded o w d c v) ≡ answer_of (concluded o (part G w) d c v)
  concluded_answer None = refl
  concluded_answer (Some r) = refl

  -- and leaves the same part
  pub concluded_after : (o : Option Refusal) → part G (world_of (concluded o w d c v)) ≡ part G (world_of (concluded o (part G w) d c v))
  concluded_after None = sym (all_in G (changes d c v) (part G w) w (part_part G w))
  concluded_after (Some r) = sym (part_part G w)

-- where a check fails, those behind it do not matter
fails_before : (cs ds : List Check) (why : Refusal) → first_failing cs ≡ Some why → first_failing (cs ++ ds) ≡ Some why
fails_before [] ds why h = let z : ◌≡◌ {A = ℕ} 0 1 = cc in absurd (omega arith)
fails_before (check r true ∷ cs) ds why h = fails_before cs ds why h
fails_before (check r false ∷ cs) ds why h = h

-- nor does what the call sees
refused_alike : (p : World) (d : ℕ) (c : Call) (u v : View) (why : Refusal) (b : Bool)
    → concluded (cond b (Some why) (Some StoreLength)) p d c u ≡ concluded (cond b (Some why) (Some StoreLength)) p d c v
refused_alike p d c u v why true = refl
refused_alike p d c u v why false = refl

-- a member's call, in the part, comes to what its view in the whole world says
module _ (G : Group) (w : World) (e : Event) (g : Good G w) (a : Asked G w e) (m : member G e.domain ≡ true) where
  abbrev d : ℕ
  d = e.domain

  abbrev c : Call
  c = e.call

  abbrev v : View
  v = view judged w d c

  abbrev first : Option Refusal
  first = first_failing (store_check w ∷ checks d c v)

  -- where it gets as far as judging, it sees the same
  reached_alike : first_failing (early d c (domain_at w.state d).active) ≡ None → unchecked (part G w) d c ≡ concluded first (part G w) d c v
  unfolding unchecked_by
  reached_alike p = rw (view_in G w g.well e m (a.state.members d m).slots (a.call.of_member m) g.charged p, words_length G w.words)

  -- where a check before that fails, it fails in both
  stopped_alike : (r : Refusal) → first_failing (early d c (domain_at w.state d).active) ≡ Some r → unchecked (part G w) d c ≡ concluded first (part G w) d c v
  unfolding unchecked_by checks view
  stopped_alike r p =
      rw (
        fails_before (early d c (domain_at (part G w).state d).active) (late d c (view judged (part G w) d c)) r (rw (domain_in G w d m) p),
        fails_before (early d c (domain_at w.state d).active) (late d c v) r p,
        words_length G w.words,
      )
      (refused_alike (part G w) d c (view judged (part G w) d c) v r (eqb (length w.words) 8192))

  there : unchecked (part G w) d (blanked c) ≡ concluded first (part G w) d c v
  there = unchecked_blanked (part G w) d c ∙ go (first_failing (early d c (domain_at w.state d).active)) refl
    where
      go : (x : Option Refusal) → first_failing (early d c (domain_at w.state d).active) ≡ x → unchecked (part G w) d c ≡ concluded first (part G w) d c v
      go None p = reached_alike p
      go (Some r) p = stopped_alike r p

  -- A MEMBER'S CALL DOES TO THE PART WHAT IT DOES THERE ALONE, known by its arguments.
  pub step_in : SameAlone monitor (lone G) (part G) blanked_event w e
  unfolding unchecked_by
  step_in =
      record {
        answer = rw (step_good w d c g, there) (concluded_answer G w d c v first);
        after = rw (step_good w d c g, there) (concluded_after G w d c v first);
      }

-- a new object lies in the caller's estate
new_lies : (a n k u d : ℕ) (b : Bool) → lies_in (new_object a n k u) d && b ≡ true → (32 * d ≤ a) × (a + n ≤ 32 * d + 32)
unfolding lies_in new_object
new_lies a n k u d b h =
    let lies = and_left _ b h in
    (leb-true _ _ (and_left _ _ lies), leb-true _ _ (and_right (leb (32 * d) a) _ lies))

-- the changes of an outsider's done call are outside, but for those that it must be granted
changes_out : (G : Group) (w : World) (d : ℕ) (c : Call) → member G d ≡ false → changes_inside G c ≡ false → Passes w d c
    → AllOutside G w (changes d c (view judged w d c))
unfolding changes late touched
changes_out G w d (OnStore (Read a)) o h p = tt
changes_out G w d (OnStore (Write a x)) o h p = (h, tt)
changes_out G w d (OnStore (Execute a)) o h p = tt
changes_out G w d (OnStore (Lookup a r)) o h p = tt
changes_out G w d (OnObject (Create a n k u)) o h p =
    let (from, to) = new_lies a n k u d _ p.rest.0 in
    (o, ((omega (arith, p.domain), λ i l m. let own : i / 64 / 32 ≡ d = omega arith in rw own o), tt))
changes_out G w d (OnObject (Delete b)) o h p = (h, tt)
changes_out G w d (OnObject (AddPassword b k m)) o h p = (h, tt)
changes_out G w d (OnObject (DropPassword b k)) o h p = (h, tt)
changes_out G w d (OnObject (Register b k l es)) o h p = (h, tt)
changes_out G w d (OnDomain (Insert i l)) o h p = (o, tt)
changes_out G w d (OnDomain (Remove i)) o h p = (o, tt)
changes_out G w d (OnDomain Get) o h p = tt
changes_out G w d (OnDomain (Lock i)) o h p = (o, tt)
changes_out G w d (OnDomain (PdxCall a ch)) o h p = (o, tt)
changes_out G w d (OnDomain PdxReturn) o h p = (o, tt)

-- AN OUTSIDER'S CALL LEAVES THE PART AS IT IS.
pub step_out : (G : Group) (w : World) (e : Event) → member G e.domain ≡ false → OutsiderCall G w e
    → part G (world_of (result_of w e)) ≡ part G w
step_out G w e o call = ⊎_elim (λ r. ap (λ x. part G (world_of x)) r.1) (λ x. does x.1) (step_cases w e.domain e.call)
  where
    does : Does w e.domain e.call (result_of w e) → part G (world_of (result_of w e)) ≡ part G w
    does (p, q) =
        rw q
        (all_out G (changes e.domain e.call (view judged w e.domain e.call)) w
        (changes_out G w e.domain e.call o (call.granted (rw q refl)) p))

-- THE MONITOR KEEPS THE LAWS that the induction over a run asks for.
pub parted : (G : Group) → Parted monitor (lone G) (part G) blanked_event (λ e. member G e.domain) (Good G) (Asked G)
parted G =
    record {
      stays_good = λ w e g a.
          record {
            well = step_sound w e.domain e.call g.well;
            long = words_kept w e.domain e.call g.long;
            charged = step_apart G w e.domain g.charged e.call;
          };
      by_member = step_in G;
      by_outsider = λ w e g a o. step_out G w e o (a.call.of_outsider o);
    }
