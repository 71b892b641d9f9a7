-- What the code of a call hands back, check by check, where it returns: the promises of Parts.antt from facts about the parts alone.
use Rattle.std.specs.Prelude.{ℕ, ◌<◌, ◌≡◌, refl, true, List, [], length, Option, Some, None, Ok, Result}
use Rattle.std.proofs.Common.{ap, ◌∙◌}
use Rattle.std.proofs.lemmas.List.{set-get_or}
use Rattle.state.specs.Places.{no_domain, no_accounts, estate_at, domain_at}
use Rattle.state.specs.Update.{with_domain}
use Rattle.state.specs.declared.Table.{Table}
use Rattle.state.specs.declared.Frame.{Frame}
use Rattle.state.specs.declared.Domain.{Domain}
use Rattle.state.specs.declared.Accounts.{Accounts}
use Rattle.state.specs.declared.State.{State}
use Rattle.judge.specs.Judged.{judged}
use Rattle.judge.specs.declared.Target.{Target}
use Rattle.calls.specs.View.{Want, nothing, rights, View, first_failing, found_by, search, passes, permitted, within_limit}
use Rattle.calls.specs.Rules.{rule, in_range, unlocked, wanted, presented, charged, value, fields, late, changes, view}
use Rattle.calls.specs.Step.{world, result_of, done}
use Rattle.calls.specs.Parts.{Entered, with_altered, with_moved, Alters, Moves}
use Rattle.calls.specs.Laws.Returns.{by_done}
use Rattle.calls.specs.declared.Call.{Call}
use Rattle.calls.specs.declared.Call.TheVariants.{OnObject, OnDomain}
use Rattle.calls.specs.declared.ObjectCall.{ObjectCall}
use Rattle.calls.specs.declared.DomainCall.{DomainCall}
use Rattle.calls.specs.declared.DomainCall.TheVariants.{Insert, Remove, Get, Lock, PdxCall, PdxReturn}
use Rattle.calls.specs.declared.Altered.{Altered}
use Rattle.calls.specs.declared.Refusal.{Refusal}
use Rattle.calls.specs.declared.Moved.{Moved}

-- a state with a domain put where it stands
pub own_domain : (s : State) (m : Domain) (d : ℕ) → domain_at s d ≡ m → with_domain s d m ≡ s
own_domain s m d q = rw (← q, set-get_or s.domains d no_domain)

-- a table and the accounts, as a state of no domains
abbrev pub parts : Table → Accounts → State
parts t x = record { table = t; domains = []; accounts = x }

-- what a call of a domain reads, by the parts
abbrev pub view_of : Table → Accounts → List ℕ → ℕ → Domain → Call → View
view_of t x words d m c =
    record {
      domain = m;
      estate = estate_at t d;
      found = search judged (world (parts t x) words) m.active (wanted c);
      live = passes t (presented c);
      permits = permitted x d (charged c);
      fits = within_limit t x d (charged c);
    }

found_is : (s : State) (words : List ℕ) (t : Table) (x : Accounts) → s.table ≡ t → (target : Target) (j : Option ℕ)
    → found_by (world s words) target j ≡ found_by (world (parts t x) words) target j
found_is s words t x p target (Some pair) = rw p
found_is s words t x p target None = refl

search_is : (s : State) (words : List ℕ) (f : Frame) (t : Table) (x : Accounts) → s.table ≡ t → (want : Want)
    → search judged (world s words) f want ≡ search judged (world (parts t x) words) f want
search_is s words f t x p nothing = refl
search_is s words f t x p (rights target r) =
    found_is s words t x p target (judged s.table words f target r)
    ∙ ap (λ u. found_by (world (parts t x) words) target (judged u words f target r)) p

pub view_is : (s : State) (words : List ℕ) (d : ℕ) (c : Call) (t : Table) (x : Accounts) → s.table ≡ t → s.accounts ≡ x
    → view judged (world s words) d c ≡ view_of t x words d (domain_at s d) c
unfolding view
view_is s words d c t x p q = rw (search_is s words (domain_at s d).active t x p (wanted c), p, q)

-- a call on the caller's domain charges nothing, so that it reads the same with any accounts
nothing_charged : (c : DomainCall) → charged (OnDomain c) ≡ None
unfolding rule
nothing_charged (Insert i l) = refl
nothing_charged (Remove i) = refl
nothing_charged Get = refl
nothing_charged (Lock i) = refl
nothing_charged (PdxCall a ch) = refl
nothing_charged PdxReturn = refl

pub view_moves : (s : State) (words : List ℕ) (d : ℕ) (c : DomainCall) (t : Table) → s.table ≡ t
    → view judged (world s words) d (OnDomain c) ≡ view_of t no_accounts words d (domain_at s d) (OnDomain c)
unfolding view
view_moves s words d c t p = rw (search_is s words (domain_at s d).active t no_accounts p (wanted (OnDomain c)), nothing_charged c, p)

module _ (t : Table) (x : Accounts) (d : ℕ) (f : Frame) (words : List ℕ) (c : ObjectCall) {r : Result Altered Refusal} where
  module _ (e : Entered words d) where
    -- done: it changes the estate that it hands back, and perhaps zeroes words
    pub alters_done : {words' : List ℕ} → ((new : Altered) → r ≡ Ok new → new.place < 4) → in_range (OnObject c) ≡ true → unlocked (OnObject c) f ≡ true
        → ((m : Domain) → m.active ≡ f → first_failing (late d (OnObject c) (view_of t x words d m (OnObject c))) ≡ None)
        → ((m : Domain) → m.active ≡ f → (s : State) → result_of (with_altered s r) words' ≡ done (world s words) d (OnObject c) (view_of t x words d m (OnObject c)))
        → Alters t x d f words c r words'
    alters_done z n u l h =
        record {
          does =
              λ s p k q.
              let g = q e.known in
              by_done s words d (OnObject c) e n (rw g u) (rw (view_is s words d (OnObject c) t x p k) (l (domain_at s d) g))
              (rw (view_is s words d (OnObject c) t x p k) (h (domain_at s d) g s));
          place = z;
        }

module _ (t : Table) (m : Domain) (words : List ℕ) (c : DomainCall) {r : Moved} where
  module _ (long : length words ≡ 8192) where
    -- a done call on the caller's domain: what it changes is the domain that it hands back
    pub moves_done : in_range (OnDomain c) ≡ true → unlocked (OnDomain c) m.active ≡ true
        → ((d : ℕ) → first_failing (late d (OnDomain c) (view_of t no_accounts words d m (OnDomain c))) ≡ None)
        → ((d : ℕ) (s : State) → result_of (with_moved s d (Ok r)) words ≡ done (world s words) d (OnDomain c) (view_of t no_accounts words d m (OnDomain c)))
        → Moves t m words c (Ok r)
    moves_done n u l h s d e p q =
        by_done s words d (OnDomain c) (record { long = long; known = e }) n (rw q u) (rw (view_moves s words d c t p, q) (l d))
        (rw (view_moves s words d c t p, q) (h d s))

    -- or it changes nothing
    pub moves_told : in_range (OnDomain c) ≡ true → unlocked (OnDomain c) m.active ≡ true
        → ((d : ℕ) → first_failing (late d (OnDomain c) (view_of t no_accounts words d m (OnDomain c))) ≡ None)
        → ((d : ℕ) → r.value ≡ value (OnDomain c) (view_of t no_accounts words d m (OnDomain c)))
        → ((d : ℕ) → r.fields ≡ fields (OnDomain c) (view_of t no_accounts words d m (OnDomain c))) → r.domain ≡ m
        → ((d : ℕ) → changes d (OnDomain c) (view_of t no_accounts words d m (OnDomain c)) ≡ []) → Moves t m words c (Ok r)
    moves_told n u l v g k h s d e p q =
        by_done s words d (OnDomain c) (record { long = long; known = e }) n (rw q u) (rw (view_moves s words d c t p, q) (l d))
        (rw (view_moves s words d c t p, q) (rw (h d, ← v d, ← g d, k, own_domain s m d q)))
