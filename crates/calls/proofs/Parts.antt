-- What the code of a call hands back where it is refused, check by check: the promises of Parts.antt from facts about the parts alone.
use Rattle.std.specs.Prelude.{ℕ, ◌<◌, ◌≡◌, refl, true, false, List, length, Result, Some, Err}
use Rattle.std.proofs.Common.{arith, ne_eqb}
use Rattle.state.specs.Places.{no_accounts, domain_at}
use Rattle.state.specs.declared.Table.{Table}
use Rattle.state.specs.declared.Frame.{Frame}
use Rattle.state.specs.declared.Domain.{Domain}
use Rattle.state.specs.declared.Accounts.{Accounts}
use Rattle.state.specs.declared.State.{State}
use Rattle.calls.specs.View.{first_failing}
use Rattle.calls.specs.Rules.{in_range, unlocked, late}
use Rattle.calls.specs.Step.{world, result_of, refused_with, unchecked}
use Rattle.calls.specs.Parts.{caller_of, Entered, Answers, Alters, Moves}
use Rattle.calls.specs.Laws.Returns.{by_caller, by_range, by_lock, by_late}
use Rattle.calls.specs.declared.Call.TheVariants.{OnStore, OnObject, OnDomain}
use Rattle.calls.specs.declared.Access.{Access}
use Rattle.calls.specs.declared.ObjectCall.{ObjectCall}
use Rattle.calls.specs.declared.DomainCall.{DomainCall}
use Rattle.calls.specs.Answers.{Answer}
use Rattle.calls.specs.declared.Altered.{Altered}
use Rattle.calls.specs.declared.Moved.{Moved}
use Rattle.calls.specs.declared.Refusal.{Refusal}
use Rattle.calls.specs.declared.Refusal.TheVariants.{StoreLength, OutOfRange, Locked}
use Rattle.calls.specs.Laws.Parts.{view_of, view_is, view_moves}

-- a store of another length is refused by 2, whoever calls
another_length : (words : List ℕ) (d : ℕ) → (length words ≡ 8192 → ⊥) → caller_of (length words) d ≡ Err StoreLength
another_length words d l = rw (ne_eqb _ _ l)

module _ (t : Table) (f : Frame) (words : List ℕ) (c : Access) {a : Answer} {words' : List ℕ} where
  -- an access with a store of another length
  pub answers_length : (length words ≡ 8192 → ⊥) → a ≡ Err StoreLength → words' ≡ words → Answers t f words c a words'
  answers_length l h k s d e p q = rw (h, k) (by_caller s words d (OnStore c) StoreLength (another_length words d l))

  -- and out of range
  pub answers_range : length words ≡ 8192 → in_range (OnStore c) ≡ false → a ≡ Err OutOfRange → words' ≡ words → Answers t f words c a words'
  answers_range l n h k s d e p q = by_range s words d (OnStore c) (record { long = l; known = e }) n (rw (h, k))

module _ (t : Table) (x : Accounts) (d : ℕ) (f : Frame) (words : List ℕ) (c : ObjectCall) {r : Result Altered Refusal} where
  -- a refused call on objects changes nothing
  refusing : {why : Refusal} → r ≡ Err why
      → ((s : State) → s.table ≡ t → s.accounts ≡ x → (d < 4 → (domain_at s d).active ≡ f)
      → result_of (refused_with s why) words ≡ unchecked (world s words) d (OnObject c)) → Alters t x d f words c r words
  refusing {why} h g =
      record {
        does = λ s p k q. rw h (g s p k q);
        place = λ new j. let y : ◌≡◌ {A = ℕ} 0 1 = cc in absurd (omega arith);
      }

  -- a caller that is not known
  pub alters_unknown : {why : Refusal} → caller_of (length words) d ≡ Err why → r ≡ Err why → Alters t x d f words c r words
  alters_unknown {why} g h = refusing h (λ s p k q. by_caller s words d (OnObject c) why g)

  -- a store of another length
  pub alters_length : (length words ≡ 8192 → ⊥) → r ≡ Err StoreLength → Alters t x d f words c r words
  alters_length l h = alters_unknown (another_length words d l) h

  module _ (e : Entered words d) where
    -- out of range, locked, and refused behind that
    pub alters_range : in_range (OnObject c) ≡ false → r ≡ Err OutOfRange → Alters t x d f words c r words
    alters_range n h = refusing h (λ s p k q. by_range s words d (OnObject c) e n refl)

    pub alters_lock : in_range (OnObject c) ≡ true → unlocked (OnObject c) f ≡ false → r ≡ Err Locked → Alters t x d f words c r words
    alters_lock n u h = refusing h (λ s p k q. by_lock s words d (OnObject c) e n (rw (q e.known) u) refl)

    pub alters_late : {why : Refusal} → in_range (OnObject c) ≡ true → unlocked (OnObject c) f ≡ true
        → ((m : Domain) → m.active ≡ f → first_failing (late d (OnObject c) (view_of t x words d m (OnObject c))) ≡ Some why)
        → r ≡ Err why → Alters t x d f words c r words
    alters_late {why} n u l h =
        refusing h
        (λ s p k q.
        let g = q e.known in
        by_late s words d (OnObject c) e {why = why} n (rw g u) (rw (view_is s words d (OnObject c) t x p k) (l (domain_at s d) g)) refl)

module _ (t : Table) (m : Domain) (words : List ℕ) (c : DomainCall) {r : Result Moved Refusal} where
  -- a call on the caller's domain, with a store of another length
  pub moves_length : (length words ≡ 8192 → ⊥) → r ≡ Err StoreLength → Moves t m words c r
  moves_length l h s d e p q = rw h (by_caller s words d (OnDomain c) StoreLength (another_length words d l))

  module _ (long : length words ≡ 8192) where
    -- out of range, locked, refused behind that, and done
    pub moves_range : in_range (OnDomain c) ≡ false → r ≡ Err OutOfRange → Moves t m words c r
    moves_range n h s d e p q = by_range s words d (OnDomain c) (record { long = long; known = e }) n (rw h)

    pub moves_lock : in_range (OnDomain c) ≡ true → unlocked (OnDomain c) m.active ≡ false → r ≡ Err Locked → Moves t m words c r
    moves_lock n u h s d e p q = by_lock s words d (OnDomain c) (record { long = long; known = e }) n (rw q u) (rw h)

    pub moves_late : {why : Refusal} → in_range (OnDomain c) ≡ true → unlocked (OnDomain c) m.active ≡ true
        → ((d : ℕ) → first_failing (late d (OnDomain c) (view_of t no_accounts words d m (OnDomain c))) ≡ Some why) → r ≡ Err why → Moves t m words c r
    moves_late {why} n u l h s d e p q =
        by_late s words d (OnDomain c) (record { long = long; known = e }) {why = why} n (rw q u) (rw (view_moves s words d c t p, q) (l d)) (rw h)
