-- The soundness of a frame and of a protection domain taken apart and put together.
use Rattle.std.specs.Prelude.{ℕ, ◌<◌, ◌≤◌, ◌≡◌, refl, Bool, true, false, ◌&&◌, leb, eqb, length}
use Rattle.std.proofs.Common.{arith, leb-true, leb-false, le-leb, ltb-true, lt-ltb, eqb-true, eq-eqb}
use Rattle.std.proofs.lemmas.Bool.{lt-leb, not-true}
use Rattle.bounded.specs.Bools.{and_left, and_right, and_both, cond_ind}
use Rattle.bounded.specs.Every.{below, below_at, below_all}
use Rattle.state.specs.Places.{no_capability, empty_frame, slot_at, saved_at}
use Rattle.soundness.specs.Sound.{blank, slot_ok, frame_bounds, frame_ok, saved_ok, domain_ok}
use Rattle.soundness.specs.Laws.Tests.{all3, all4, unused_test, used_test}
use Rattle.soundness.specs.Laws.Zeros.{blank_none, zero_frame}
use Rattle.state.specs.declared.Frame.{Frame}
use Rattle.state.specs.declared.Domain.{Domain}

-- a frame
pub record FrameSound (f : Frame) : Type 0 where
  pub long : length f.slots ≡ 8
  pub fits : f.count ≤ 8
  pub locks : f.locked ≤ f.count
  pub slot : (k : ℕ) → k < f.count → (slot_at f k).page < 128
  pub past : (k : ℕ) → k < 8 → f.count ≤ k → slot_at f k ≡ no_capability

-- a frame that passes the test, in use or not, has these bounds
bounds_parts : (unused : Bool) (f : Frame) → frame_ok unused f ≡ true → FrameSound f
unfolding frame_ok frame_bounds slot_ok
bounds_parts unused f h =
    let (long, bounds, none) = all3 (eqb (length f.slots) 8) (frame_bounds f) _ h in
    let (fits, locks, each) = all3 _ _ _ bounds in
    let small : f.count ≤ 8 = leb-true _ 8 fits in
    let at : (k : ℕ) → k < 8 → slot_ok f k ≡ true = below_at 8 (slot_ok f) each in
    record {
      long = eqb-true _ 8 long;
      fits = small;
      locks = leb-true _ _ locks;
      slot = λ k l. ltb-true _ 128 (used_test (leb f.count k) _ _ (at k (omega arith)) (lt-leb _ k l));
      past = λ k l m. blank_none _ (unused_test (leb f.count k) _ _ (at k l) (le-leb _ k m));
    }

pub frame_parts : (f : Frame) → frame_ok false f ≡ true → FrameSound f
frame_parts = bounds_parts false

-- a frame with these bounds passes the test
pub parts_frame : (f : Frame) → FrameSound f → frame_ok false f ≡ true
unfolding frame_ok frame_bounds slot_ok blank
parts_frame f h =
    and_both
    (and_both (eq-eqb _ 8 h.long)
    (and_both (and_both (le-leb _ 8 h.fits) (le-leb _ _ h.locks))
    (below_all 8 (slot_ok f)
    (λ k l. cond_ind (λ b. b ≡ true) (leb f.count k) _ _ (λ e. rw (h.past k l (leb-true _ k e)))
    (λ e. lt-ltb _ 128 (h.slot k (leb-false _ k e)))))))
    refl

-- an unused one is the empty frame
pub unused_frame : (f : Frame) → frame_ok true f ≡ true → f ≡ empty_frame
unfolding frame_ok
unused_frame f h =
    let q = bounds_parts true f h in
    let none = and_right (eqb (length f.slots) 8 && frame_bounds f) _ h in
    let n : f.count ≡ 0 = eqb-true _ 0 (and_left _ _ none) in
    zero_frame f q.long (λ k l. q.past k l (omega arith)) n (omega (arith, q.locks)) (not-true _ (and_right (eqb f.count 0) _ none))

-- and the empty frame passes both tests
pub empty_frame_lem : (unused : Bool) → frame_ok unused empty_frame ≡ true
unfolding frame_ok frame_bounds slot_ok blank below
empty_frame_lem true = refl
empty_frame_lem false = refl

-- a protection domain: the saved frames below the depth are in use, the others empty
pub record DomainSound (m : Domain) : Type 0 where
  pub long : length m.saved ≡ 4
  pub active : frame_ok false m.active ≡ true
  pub deep : m.depth ≤ 4
  pub saved : (k : ℕ) → k < m.depth → frame_ok false (saved_at m k) ≡ true
  pub past : (k : ℕ) → k < 4 → m.depth ≤ k → saved_at m k ≡ empty_frame

-- a domain that passes the test has these bounds
pub domain_parts : (m : Domain) → domain_ok m ≡ true → DomainSound m
unfolding domain_ok saved_ok
domain_parts m h =
    let (long, active, deep, each) = all4 _ _ _ _ h in
    let small : m.depth ≤ 4 = leb-true _ 4 deep in
    let at : (k : ℕ) → k < 4 → saved_ok m k ≡ true = below_at 4 (saved_ok m) each in
    record {
      long = eqb-true _ 4 long;
      active = active;
      deep = small;
      saved = λ k l. rw (lt-leb m.depth k l) at (at k (omega arith));
      past = λ k l n. unused_frame _ (rw (le-leb m.depth k n) at (at k l));
    }

-- a domain with these bounds passes the test
pub parts_domain : (m : Domain) → DomainSound m → domain_ok m ≡ true
unfolding domain_ok saved_ok
parts_domain m h =
    and_both (and_both (and_both (eq-eqb _ 4 h.long) h.active) (le-leb _ 4 h.deep))
    (below_all 4 (saved_ok m) (λ k l. go k l (leb m.depth k) refl))
  where
    go : (k : ℕ) → k < 4 → (b : Bool) → leb m.depth k ≡ b → frame_ok b (saved_at m k) ≡ true
    go k l true e = rw (h.past k l (leb-true _ k e)) (empty_frame_lem true)
    go k l false e = h.saved k (leb-false _ k e)
