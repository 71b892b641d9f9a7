-- The soundness of an object and its registration taken apart and put together.
use Rattle.std.specs.Prelude.{ℕ, ◌+◌, ◌*◌, ◌/◌, ◌<◌, ◌≤◌, ◌≡◌, refl, true, not, leb, eqb, length}
use Rattle.std.proofs.Common.{ap, ◌∙◌, ⊎_elim, arith, leb-true, leb-false, le-leb, ltb-true, lt-ltb, eqb-true, eq-eqb}
use Rattle.std.proofs.lemmas.List.{get_or-replicate}
use Rattle.std.proofs.lemmas.Bool.{lt-leb, not-false}
use Rattle.bounded.specs.Bools.{and_left, and_right, and_both, or_unless, cond_ind, same_or_not}
use Rattle.bounded.specs.Every.{below, below_at, below_all}
use Rattle.rights.specs.Modes.{legal}
use Rattle.state.specs.Places.{no_password, free_registration, free_object, password_at, entry_at}
use Rattle.state.specs.Extent.{free, covers, lies_in}
use Rattle.state.specs.Laws.Extent.{zero_not, not_zero, covers_parts}
use Rattle.soundness.specs.Sound.{password_ok, absent, distinct, all_passwords, password_next, passwords_ok, blank, entry_ok, registration_ok, without_passwords, object_bounds, object_ok}
use Rattle.soundness.specs.Laws.Tests.{all3, unused_test, used_test}
use Rattle.soundness.specs.Laws.Zeros.{blank_none, zero_password, zero_registration, zero_object}
use Rattle.state.specs.declared.Object.{Object}

-- a registration that is there
pub record RegistrationSound (o : Object) : Type 0 where
  pub list : o.registration.list.page < 128
  pub some : 0 < o.registration.count
  pub few : o.registration.count ≤ 4
  pub entry : (k : ℕ) → k < o.registration.count → covers o (entry_at o k / 64) ≡ true
  pub past : (k : ℕ) → k < 4 → o.registration.count ≤ k → entry_at o k ≡ 0

-- an entry past the count of one that passes the test is 0
pub past_entry : (o : Object) → registration_ok o ≡ true → (k : ℕ) → k < 4 → o.registration.count ≤ k → entry_at o k ≡ 0
unfolding registration_ok entry_ok
past_entry o h k l m =
    eqb-true _ 0 (unused_test (leb o.registration.count k) _ _ (below_at 4 (entry_ok o) (and_left (below 4 (entry_ok o)) _ h) k l) (le-leb _ k m))

-- a registration that passes the test, and has a password, has these bounds
pub registration_parts : (o : Object) → registration_ok o ≡ true → 0 < o.registration.password → RegistrationSound o
unfolding registration_ok entry_ok
registration_parts o h p =
    let each = and_left (below 4 (entry_ok o)) _ h in
    let (list, some, few) = all3 _ _ _ (used_test (eqb o.registration.password 0) _ _ (and_right (below 4 (entry_ok o)) _ h) (zero_not _ p)) in
    let small : o.registration.count ≤ 4 = leb-true _ 4 few in
    record {
      list = ltb-true _ 128 list;
      some = ltb-true 0 _ some;
      few = small;
      entry = λ k l. used_test (leb o.registration.count k) _ _ (below_at 4 (entry_ok o) each k (omega arith)) (lt-leb _ k l);
      past = past_entry o h;
    }

-- one without a password is all zero
pub registration_none : (o : Object) → length o.registration.entries ≡ 4 → registration_ok o ≡ true → o.registration.password ≡ 0
    → o.registration ≡ free_registration
unfolding registration_ok
registration_none o l h e =
    let zero = unused_test (eqb o.registration.password 0) _ _ (and_right (below 4 (entry_ok o)) _ h) (eq-eqb _ 0 e) in
    let n : o.registration.count ≡ 0 = eqb-true _ 0 (and_right (blank o.registration.list) _ zero) in
    zero_registration o.registration e (blank_none _ (and_left (blank o.registration.list) _ zero)) n l (λ k m. past_entry o h k m (omega arith))

-- a registration with these bounds, or all zero, passes the test
pub parts_registration : (o : Object) → RegistrationSound o → 0 < o.registration.password → registration_ok o ≡ true
unfolding registration_ok entry_ok
parts_registration o r p =
    rw (zero_not _ p)
    (and_both
    (below_all 4 (entry_ok o)
    (λ k l. cond_ind (λ b. b ≡ true) (leb o.registration.count k) _ _ (λ e. eq-eqb _ 0 (r.past k l (leb-true _ k e)))
    (λ e. r.entry k (leb-false _ k e))))
    (and_both (and_both (lt-ltb _ 128 r.list) (lt-ltb 0 _ r.some)) (le-leb _ 4 r.few)))

pub none_registration : (o : Object) → o.registration ≡ free_registration → registration_ok o ≡ true
unfolding registration_ok entry_ok blank below
none_registration o e = rw e

-- an object that stands in estate d
pub record ObjectBounds (o : Object) (d : ℕ) : Type 0 where
  pub from : 32 * d ≤ o.base
  pub to : o.base + o.pages ≤ 32 * d + 32
  pub mode : (k : ℕ) → k < 4 → 0 < (password_at o k).word → legal (password_at o k).mode ≡ true
  pub vacant : (k : ℕ) → k < 4 → (password_at o k).word ≡ 0 → (password_at o k).mode ≡ 0
  pub next : (k : ℕ) → k < 3 → (password_at o k).word ≡ 0 → (password_at o (k + 1)).word ≡ 0
  pub different : distinct (all_passwords o) ≡ true
  pub registration : registration_ok o ≡ true
  pub account : o.account < 4

vacant_mode : (o : Object) → below 4 (password_ok o) ≡ true → (k : ℕ) → k < 4 → (password_at o k).word ≡ 0 → (password_at o k).mode ≡ 0
unfolding password_ok
vacant_mode o h k l e = eqb-true _ 0 (unused_test (eqb (password_at o k).word 0) _ _ (below_at 4 (password_ok o) h k l) (eq-eqb _ 0 e))

bounds_parts : (o : Object) (d : ℕ) → object_bounds o d ≡ true → 0 < o.pages → ObjectBounds o d
unfolding object_bounds passwords_ok lies_in password_ok password_next
bounds_parts o d h p =
    let (passwords, registration, rest) = all3 _ _ _ h in
    let each = and_left (below 4 (password_ok o)) _ passwords in
    let placed = and_right (below 4 (password_ok o)) _ passwords in
    let bound = used_test (free o) _ _ rest (zero_not _ p) in
    let lies = and_left (lies_in o d) _ bound in
    record {
      from = leb-true _ _ (and_left _ _ lies);
      to = leb-true _ _ (and_right (leb (32 * d) o.base) _ lies);
      mode = λ k l q. used_test (eqb (password_at o k).word 0) _ _ (below_at 4 (password_ok o) each k l) (zero_not _ q);
      vacant = vacant_mode o each;
      next = λ k l e. eqb-true _ 0 (rw (eq-eqb _ 0 e) at (below_at 3 (password_next o) (and_left (below 3 (password_next o)) _ placed) k l));
      different = and_right (below 3 (password_next o)) _ placed;
      registration = registration;
      account = ltb-true _ 4 (and_right (lies_in o d) _ bound);
    }

parts_bounds : (o : Object) (d : ℕ) → ObjectBounds o d → 0 < o.pages → object_bounds o d ≡ true
unfolding object_bounds passwords_ok lies_in password_ok password_next
parts_bounds o d h p =
    rw (zero_not _ p)
    (and_both
    (and_both
    (and_both
    (below_all 4 (password_ok o)
    (λ k l. cond_ind (λ b. b ≡ true) (eqb (password_at o k).word 0) _ _ (λ e. eq-eqb _ 0 (h.vacant k l (eqb-true _ 0 e)))
    (λ e. h.mode k l (not_zero _ e))))
    (and_both
    (below_all 3 (password_next o)
    (λ k l. or_unless (not (eqb (password_at o k).word 0)) _ (λ e. eq-eqb _ 0 (h.next k l (eqb-true _ 0 (not-false _ e))))))
    h.different))
    h.registration)
    (and_both (and_both (le-leb _ _ h.from) (le-leb _ _ h.to)) (lt-ltb _ 4 h.account)))

zeros : (o : Object) (d : ℕ) → length o.passwords ≡ 4 → length o.registration.entries ≡ 4 → object_bounds o d ≡ true → o.pages ≡ 0
    → o ≡ free_object
unfolding object_bounds passwords_ok without_passwords
zeros o d l m h e =
    let (passwords, registration, rest) = all3 _ _ _ h in
    let each = and_left (below 4 (password_ok o)) _ passwords in
    let zero = unused_test (free o) _ _ rest (eq-eqb _ 0 e) in
    let (base, without, account) = all3 _ _ _ zero in
    let word : (k : ℕ) → k < 4 → (password_at o k).word ≡ 0 =
    λ k l. eqb-true _ 0 (below_at 4 (λ k. eqb (password_at o k).word 0) (and_right (eqb o.registration.password 0) _ without) k l) in
    zero_object o (eqb-true _ 0 base) e l (λ k n. zero_password _ (word k n) (vacant_mode o each k n (word k n)))
    (registration_none o m registration (eqb-true _ 0 (and_left (eqb o.registration.password 0) _ without))) (eqb-true _ 0 account)

-- a free place is sound in each estate
pub free_sound : (d : ℕ) → object_ok free_object d ≡ true
unfolding object_ok object_bounds passwords_ok password_ok password_next distinct absent registration_ok entry_ok blank without_passwords below
free_sound d = refl

-- a place for an object: an object that keeps its bounds, or all zero
pub record ObjectSound (o : Object) (d : ℕ) : Type 0 where
  pub passwords : length o.passwords ≡ 4
  pub entries : length o.registration.entries ≡ 4
  pub bounds : 0 < o.pages → ObjectBounds o d
  pub none : o.pages ≡ 0 → o ≡ free_object

-- a place that passes the test has these bounds
pub object_parts : (o : Object) (d : ℕ) → object_ok o d ≡ true → ObjectSound o d
unfolding object_ok
object_parts o d h =
    let (passwords, entries, bounds) = all3 _ _ _ h in
    let l : length o.passwords ≡ 4 = eqb-true _ 4 passwords in
    let m : length o.registration.entries ≡ 4 = eqb-true _ 4 entries in
    record { passwords = l; entries = m; bounds = bounds_parts o d bounds; none = zeros o d l m bounds }

-- free or standing, its registration passes the test, and a password with the word 0 is all zero
pub object_registration : (o : Object) (d : ℕ) → object_ok o d ≡ true → registration_ok o ≡ true
object_registration o d h =
    let q = object_parts o d h in
    ⊎_elim (λ z. rw (q.none z) (none_registration free_object refl)) (λ ne. (q.bounds (omega arith)).registration) (same_or_not o.pages 0)

pub vacant_password : (o : Object) (d : ℕ) → object_ok o d ≡ true → (k : ℕ) → k < 4 → (password_at o k).word ≡ 0 → password_at o k ≡ no_password
vacant_password o d h k l e =
    let q = object_parts o d h in
    ⊎_elim (λ z. ap (λ x. password_at x k) (q.none z) ∙ get_or-replicate 4 k no_password no_password l)
    (λ ne. zero_password _ e ((q.bounds (omega arith)).vacant k l e)) (same_or_not o.pages 0)

-- a place with these bounds passes the test
pub parts_object : (o : Object) (d : ℕ) → ObjectSound o d → object_ok o d ≡ true
unfolding object_ok
parts_object o d h =
    ⊎_elim (λ e. rw (h.none e) (free_sound d))
    (λ ne. let p : 0 < o.pages = omega arith in
    and_both (and_both (eq-eqb _ 4 h.passwords) (eq-eqb _ 4 h.entries)) (parts_bounds o d (h.bounds p) p))
    (same_or_not o.pages 0)

-- a page that an object of estate d has lies in the estate
pub covers_estate : (o : Object) (d page : ℕ) → object_ok o d ≡ true → covers o page ≡ true → page / 32 ≡ d
covers_estate o d page h c =
    let r = covers_parts o page c in
    let b = (object_parts o d h).bounds (omega arith) in
    omega arith
