-- The changes of an object keep it sound.
use Rattle.std.specs.Prelude.{ℕ, suc, ◌+◌, ◌*◌, ◌<◌, ◌≤◌, ◌≡◌, refl, true, false, not, ◌||◌, List, ◌∷◌, eqb, length, get_or, set, replicate}
use Rattle.std.proofs.Common.{ap, sym, subst, ◌∙◌, arith, add-one, length-set, get_or-set_other, eq-eqb, ne_eqb}
use Rattle.std.proofs.lemmas.List.{get_or-replicate}
use Rattle.bounded.specs.Bools.{and_both, or_unless, cond_ind}
use Rattle.bounded.specs.Every.{set_at}
use Rattle.bounded.specs.Fill.{tabulate, tabulate_at, tabulate_set}
use Rattle.bounded.specs.Place.{found_some}
use Rattle.bounded.specs.Shift.{out_cases}
use Rattle.rights.specs.Modes.{legal}
use Rattle.state.specs.Places.{no_password, free_registration, password_at}
use Rattle.state.specs.Extent.{covers}
use Rattle.state.specs.Lookup.{place_of, free_password_place, has_password}
use Rattle.state.specs.Update.{new_object, with_passwords, with_registration, add_password, password_out, drop_password}
use Rattle.state.specs.Laws.Extent.{not_zero}
use Rattle.state.specs.Laws.Passwords.{shows, has_none}
use Rattle.soundness.specs.Sound.{absent, distinct, all_passwords, entry_ok, registration_ok, object_ok}
use Rattle.soundness.specs.Laws.Distinct.{absent_tabulate, distinct_set, pairs_distinct, distinct_at}
use Rattle.soundness.specs.Laws.ObjectParts.{RegistrationSound, parts_registration, none_registration, ObjectBounds, ObjectSound, object_parts, parts_object}
use Rattle.soundness.specs.Laws.Passwords.{word_at}
use Rattle.state.specs.declared.Password.{Password}
use Rattle.state.specs.declared.Registration.{Registration}
use Rattle.state.specs.declared.Object.{Object}

-- the word is 0, or stands nowhere among the object's passwords
abbrev New : Object → ℕ → Type 0
New o word = (eqb word 0 || absent word (all_passwords o)) ≡ true

new_word : (o : Object) (word : ℕ) → has_password o word ≡ false → New o word
unfolding absent
new_word o word h =
    or_unless (eqb word 0) _
    (λ z. let n = has_none o word h (not_zero word z) in and_both (ap not n.registration) (absent_tabulate word 4 _ n.ordinary))

-- a new object with a password, on one of the accounts, whose pages lie in the estate
pub new_sound : (base pages word account d : ℕ) → 0 < pages → 0 < word → account < 4 → 32 * d ≤ base → base + pages ≤ 32 * d + 32
    → object_ok (new_object base pages word account) d ≡ true
unfolding new_object distinct
new_sound base pages word account d n w c a b =
    parts_object _ d
    (record {
      passwords = refl;
      entries = refl;
      bounds = λ p.
          record {
            from = a;
            to = b;
            mode = modes;
            vacant = vacant;
            next = λ k l z. rw (add-one k) (ap (λ x. x.word) (get_or-replicate 3 k no_password no_password l));
            different = distinct_set word (replicate 5 0) 1 (or_unless (eqb word 0) _ other) refl;
            registration = none_registration _ refl;
            account = c;
          };
      none = λ e. absurd (omega arith);
    })
  where
    modes : (k : ℕ) → k < 4 → 0 < (password_at (new_object base pages word account) k).word → legal (password_at (new_object base pages word account) k).mode ≡ true
    modes k l = set_at (λ _ x. 0 < x.word → legal x.mode ≡ true) (replicate 4 no_password) 0 _ no_password k (omega arith) (λ e p. refl)
        (λ ne. rw (get_or-replicate 4 k no_password no_password l) (λ p. absurd (omega arith)))

    vacant : (k : ℕ) → k < 4 → (password_at (new_object base pages word account) k).word ≡ 0 → (password_at (new_object base pages word account) k).mode ≡ 0
    vacant k l = set_at (λ _ x. x.word ≡ 0 → x.mode ≡ 0) (replicate 4 no_password) 0 _ no_password k (omega arith) (λ e z. absurd (omega arith))
        (λ ne z. ap (λ x. x.mode) (get_or-replicate 4 k no_password no_password l))

    other : eqb word 0 ≡ false → absent word (replicate 5 0) ≡ true
    other z = absent_tabulate word 5 (λ k. 0) (λ k l. let p = not_zero word z in ne_eqb 0 word (λ e. omega arith))

-- what is asked of the passwords of a standing object
record PasswordsSound (o : Object) : Type 0 where
  mode : (k : ℕ) → k < 4 → 0 < (password_at o k).word → legal (password_at o k).mode ≡ true
  vacant : (k : ℕ) → k < 4 → (password_at o k).word ≡ 0 → (password_at o k).mode ≡ 0
  next : (k : ℕ) → k < 3 → (password_at o k).word ≡ 0 → (password_at o (k + 1)).word ≡ 0
  different : distinct (all_passwords o) ≡ true

-- the registration is looked at with the run alone
kept_registration : (o : Object) (ps : List Password) → registration_ok (with_passwords o ps) ≡ registration_ok o
unfolding registration_ok entry_ok covers
kept_registration o ps = refl

-- other passwords of a standing object
passwords_sound : (o : Object) (d : ℕ) (ps : List Password) → length ps ≡ 4 → PasswordsSound (with_passwords o ps) → 0 < o.pages → object_ok o d ≡ true
    → object_ok (with_passwords o ps) d ≡ true
passwords_sound o d ps long n s h =
    let q = object_parts o d h in
    let b = q.bounds s in
    parts_object _ d
    (record {
      passwords = long;
      entries = q.entries;
      bounds = λ _.
          record {
            from = b.from;
            to = b.to;
            mode = n.mode;
            vacant = n.vacant;
            next = n.next;
            different = n.different;
            registration = rw kept_registration b.registration;
            account = b.account;
          };
      none = λ e. absurd (omega arith);
    })

-- A PASSWORD MORE, one that the object does not have, behind the last
pub add_sound : (o : Object) (d word mode : ℕ) → 0 < word → has_password o word ≡ false → legal mode ≡ true → 0 < o.pages → object_ok o d ≡ true
    → object_ok (add_password o word mode) d ≡ true
unfolding add_password place_of
add_sound o d word mode p n m s h =
    passwords_sound o d _ (simp length-set q.passwords)
    (record {
      mode = λ k l. set_at (λ _ x. 0 < x.word → legal x.mode ≡ true) o.passwords at new no_password k (omega (arith, q.passwords)) (λ e _. m) (λ ne. b.mode k l);
      vacant = λ k l. set_at (λ _ x. x.word ≡ 0 → x.mode ≡ 0) o.passwords at new no_password k (omega (arith, q.passwords)) (λ e z. absurd (omega arith)) (λ ne. b.vacant k l);
      next = next;
      different =
          subst (λ t. distinct (o.registration.password ∷ t) ≡ true) (sym (tabulate_set 4 (λ x. x.word) o.passwords at new no_password q.passwords))
          (distinct_set word (all_passwords o) (suc at) (new_word o word n) b.different);
    }) s h
  where
    q : ObjectSound o d
    q = object_parts o d h

    b : ObjectBounds o d
    b = q.bounds s

    at : ℕ
    at = free_password_place o

    new : Password
    new = record { word = word; mode = mode }

    next : (k : ℕ) → k < 3 → (get_or (set o.passwords at new) k no_password).word ≡ 0 → (get_or (set o.passwords at new) (k + 1) no_password).word ≡ 0
    next k l =
        set_at (λ j x. x.word ≡ 0 → (get_or (set o.passwords at new) (j + 1) no_password).word ≡ 0) o.passwords at new no_password k (omega (arith, q.passwords))
        (λ e z. absurd (omega arith))
        (λ ne z. let low = (found_some (shows o 0) 4 k (omega arith) (eq-eqb _ 0 z)).1 in
        rw (get_or-set_other o.passwords at (k + 1) new no_password (λ e. omega arith)) (b.next k l z))

-- A PASSWORD LESS: the younger ones close the gap
module _ (o : Object) (d at : ℕ) (s : 0 < o.pages) (h : object_ok o d ≡ true) where
  b : ObjectBounds o d
  b = (object_parts o d h).bounds s

  abbrev word : ℕ → ℕ
  word k = (password_at o k).word

  -- of two places with the same word the word is 0
  pair : (i j : ℕ) → i < j → j < 4 → word i ≡ word j → word i ≡ 0
  pair i j l m e =
      sym (word_at o i (omega arith)) ∙ distinct_at (all_passwords o) (suc i) (suc j) (omega arith) (omega arith) b.different
      (word_at o i (omega arith) ∙ e ∙ sym (word_at o j m))

  first_pair : (j : ℕ) → j < 4 → o.registration.password ≡ word j → o.registration.password ≡ 0
  first_pair j m e = distinct_at (all_passwords o) 0 (suc j) (omega arith) (omega arith) b.different (e ∙ sym (word_at o j m))

  abbrev rest : Object
  rest = with_passwords o (tabulate 4 (password_out o at))

  out_at : (k : ℕ) → k < 4 → password_at rest k ≡ password_out o at k
  out_at k l = tabulate_at 4 (password_out o at) k no_password l

  each : (P : Password → Type 0) (k : ℕ) → (k < at → P (password_at o k)) → (at ≤ k → k < 3 → P (password_at o (k + 1))) → (at ≤ k → 3 ≤ k → P no_password) → P (password_out o at k)
  each = out_cases (password_at o) 3 no_password at

  out_pairs : (i j : ℕ) → i < j → j < 5 → get_or (all_passwords rest) i 0 ≡ get_or (all_passwords rest) j 0 → get_or (all_passwords rest) i 0 ≡ 0
  out_pairs i ℕ.zero l m = absurd (omega arith)
  out_pairs ℕ.zero (suc j) l m =
      rw (word_at rest j (omega arith), out_at j (omega arith))
      (each (λ y. o.registration.password ≡ y.word → o.registration.password ≡ 0) j (λ a. first_pair j (omega arith))
      (λ a c. first_pair (j + 1) (omega arith)) (λ a c e. e))
  out_pairs (suc i) (suc j) l m =
      rw (word_at rest i (omega arith), word_at rest j (omega arith), out_at i (omega arith), out_at j (omega arith))
      (each (λ x. x.word ≡ (password_out o at j).word → x.word ≡ 0) i
      (λ a. each (λ y. word i ≡ y.word → word i ≡ 0) j (λ c. pair i j (omega arith) (omega arith)) (λ c f. pair i (j + 1) (omega arith) (omega arith)) (λ c f e. e))
      (λ a c. each (λ y. word (i + 1) ≡ y.word → word (i + 1) ≡ 0) j (λ f. absurd (omega arith)) (λ f g. pair (i + 1) (j + 1) (omega arith) (omega arith)) (λ f g e. e))
      (λ a c e. refl))

  out_next : (k : ℕ) → k < 3 → (password_out o at k).word ≡ 0 → (password_out o at (k + 1)).word ≡ 0
  out_next k l =
      each (λ x. x.word ≡ 0 → (password_out o at (k + 1)).word ≡ 0) k
      (λ a z. each (λ y. y.word ≡ 0) (k + 1) (λ c. b.next k l z) (λ c f. b.next (k + 1) f (b.next k l z)) (λ c f. refl))
      (λ a c z. each (λ y. y.word ≡ 0) (k + 1) (λ f. absurd (omega arith)) (λ f g. b.next (k + 1) g z) (λ f g. refl))
      (λ a c z. absurd (omega arith))

  out_sound : object_ok rest d ≡ true
  out_sound =
      passwords_sound o d _ refl
      (record {
        mode = λ k l. rw (out_at k l) (each (λ x. 0 < x.word → legal x.mode ≡ true) k (λ a. b.mode k l) (λ a c. b.mode (k + 1) (omega arith)) (λ a c p. absurd (omega arith)));
        vacant = λ k l. rw (out_at k l) (each (λ x. x.word ≡ 0 → x.mode ≡ 0) k (λ a. b.vacant k l) (λ a c. b.vacant (k + 1) (omega arith)) (λ a c z. refl));
        next = λ k l. rw (out_at k (omega arith), out_at (k + 1) (omega arith)) (out_next k l);
        different = pairs_distinct (all_passwords rest) out_pairs;
      }) s h

-- another registration of a standing object, whose password it does not have
registration_sound : (o : Object) (d : ℕ) (g : Registration) → length g.entries ≡ 4 → New o g.password
    → registration_ok (with_registration o g) ≡ true → 0 < o.pages → object_ok o d ≡ true → object_ok (with_registration o g) d ≡ true
registration_sound o d g l n r s h =
    let q = object_parts o d h in
    let b = q.bounds s in
    parts_object _ d
    (record {
      passwords = q.passwords;
      entries = l;
      bounds = λ _.
          record {
            from = b.from;
            to = b.to;
            mode = b.mode;
            vacant = b.vacant;
            next = b.next;
            different = distinct_set g.password (all_passwords o) 0 n b.different;
            registration = r;
            account = b.account;
          };
      none = λ e. absurd (omega arith);
    })

-- one that is there
pub register_sound : (o : Object) (d : ℕ) (g : Registration) → length g.entries ≡ 4 → 0 < g.password → has_password o g.password ≡ false
    → RegistrationSound (with_registration o g) → 0 < o.pages → object_ok o d ≡ true → object_ok (with_registration o g) d ≡ true
register_sound o d g l p n r = registration_sound o d g l (new_word o g.password n) (parts_registration (with_registration o g) r p)

-- none
unregister_sound : (o : Object) (d : ℕ) → 0 < o.pages → object_ok o d ≡ true → object_ok (with_registration o free_registration) d ≡ true
unregister_sound o d = registration_sound o d free_registration refl refl (none_registration (with_registration o free_registration) refl)

-- a password of a standing object less, whatever it is
pub drop_sound : (o : Object) (d word : ℕ) → 0 < o.pages → object_ok o d ≡ true → object_ok (drop_password o word) d ≡ true
unfolding drop_password
drop_sound o d word s h =
    cond_ind (λ x. object_ok x d ≡ true) (eqb word 0) o _ (λ e. h)
    (λ e. cond_ind (λ x. object_ok x d ≡ true) (eqb o.registration.password word) _ _ (λ r. unregister_sound o d s h)
    (λ r. out_sound o d (place_of o word) s h))
