-- What holds of the objects of some domains' estates, and of these domains: what a search finds there, and what a call keeps.
use Rattle.std.specs.Prelude.{ℕ, suc, ◌+◌, ◌-◌, ◌/◌, ◌≡◌, refl, Bool, true, List, [], ◌∷◌, ◌⊎◌, leb, get_or, set, replicate, Option, Some, None}
use Rattle.std.proofs.Common.{ap, subst, inl, inr, ⊎_elim}
use Rattle.bounded.specs.Bools.{cond_ind}
use Rattle.bounded.specs.Fill.{tabulate}
use Rattle.bounded.specs.Shift.{in_cases, out_cases}
use Rattle.state.specs.Places.{no_object, no_estate, no_domain, free_object, object_at, estate_at, domain_at}
use Rattle.state.specs.Lookup.{has_base, ends_behind, object_where, place_where, place_above, based, object_based, covering, object_covering}
use Rattle.state.specs.Update.{with_object, object_in, insert_object, object_out, remove_object}
use Rattle.state.specs.Laws.Lookup.{found_or_free}
use Rattle.soundness.specs.Sound.{sound}
use Rattle.state.specs.declared.Object.{Object}
use Rattle.state.specs.declared.Estate.{Estate}
use Rattle.state.specs.declared.Table.{Table}
use Rattle.state.specs.declared.Frame.{Frame}
use Rattle.state.specs.declared.Domain.{Domain}
use Rattle.state.specs.declared.State.{State}
use Rattle.judge.specs.Judged.{judged}
use Rattle.judge.specs.declared.Target.TheVariants.{Base}
use Rattle.calls.specs.Answers.{number_of}
use Rattle.calls.specs.View.{rights, World, search, found_by, object_of, estate_found}
use Rattle.calls.specs.Changes.{Change, word, zeros, estate, domain, apply_one, apply_all}
use Rattle.calls.specs.Rules.{view, changes}
use Rattle.calls.specs.Step.{step}
use Rattle.calls.specs.Laws.Passed.{Passes, Refuses, Does}
use Rattle.calls.proofs.Passed.{step_cases}
use Rattle.calls.specs.declared.Call.{Call}

-- What holds of the value put in, and at the place before, holds at the place afterwards.
set_any : {A : Type 0} (P : A → Type 0) (l : List A) (i k : ℕ) (v d : A) → (k ≡ i → P v) → P (get_or l k d) → P (get_or (set l i v) k d)
set_any P [] i k v d p q = q
set_any P (x ∷ l) ℕ.zero ℕ.zero v d p q = p refl
set_any P (x ∷ l) ℕ.zero (suc k) v d p q = q
set_any P (x ∷ l) (suc i) ℕ.zero v d p q = q
set_any P (x ∷ l) (suc i) (suc k) v d p q = set_any P l i k v d (λ e. p (ap suc e)) q

-- OBJECTS: something that holds of each object of an estate
abbrev pub Each : (Object → Type 0) → Estate → Type 0
Each P e = (k : ℕ) → P (object_at e k)

-- stays so with another object of which it holds
pub put_each : (P : Object → Type 0) (e : Estate) (place : ℕ) (o : Object) → P o → Each P e → Each P (with_object e place o)
put_each P e place o p h k = set_any P e.objects place k o no_object (λ e. p) (h k)

-- what holds at each place of a list that is given so, and past its end
tabulate_any : {A : Type 0} (P : A → Type 0) (d : A) → P d → (n : ℕ) (g : ℕ → A) → ((k : ℕ) → P (g k)) → (k : ℕ) → P (get_or (tabulate n g) k d)
tabulate_any P d none ℕ.zero g h k = none
tabulate_any P d none (suc n) g h ℕ.zero = h 0
tabulate_any P d none (suc n) g h (suc k) = tabulate_any P d none n (λ j. g (suc j)) (λ j. h (suc j)) k

-- and where it holds of a free place
module _ (P : Object → Type 0) (free : P free_object) (none : P no_object) where
  -- it stays so with an object more of which it holds, and with one less
  pub insert_each : (e : Estate) (o : Object) → P o → Each P e → Each P (insert_object e o)
  unfolding insert_object
  insert_each e o p h =
      tabulate_any P no_object none 8 (object_in e (place_above e o.base) o)
      (λ k. in_cases (object_at e) (place_above e o.base) o P k (λ a. h k) (λ a. p) (λ a. h (k - 1)))

  remove_each : (e : Estate) (place : ℕ) → Each P e → Each P (remove_object e place)
  unfolding remove_object
  remove_each e place h =
      tabulate_any P no_object none 8 (object_out e place) (λ k. out_cases (object_at e) 7 free_object place P k (λ a. h k) (λ a b. h (k + 1)) (λ a b. free))

  -- it holds at each of several
  pub free_each : (n k : ℕ) → P (get_or (replicate n free_object) k no_object)
  free_each ℕ.zero k = none
  free_each (suc n) ℕ.zero = free
  free_each (suc n) (suc k) = free_each n k

  -- and of what is found in the estate, an object or none: by a test, by its base, by a page of it
  where_each : (test : Object → Bool) (e : Estate) → Each P e → P (object_where test e)
  where_each test e h = ⊎_elim (λ s. subst P s.there (h (place_where test e))) (λ z. rw z free) (found_or_free test e)

  pub based_each : (t : Table) (b : ℕ) → Each P (estate_at t (b / 32)) → P (object_based t b)
  unfolding object_based based
  based_each t b h = where_each (has_base b) (estate_at t (b / 32)) h

  pub covering_each : (t : Table) (p : ℕ) → Each P (estate_at t (p / 32)) → P (object_covering t p)
  unfolding object_covering covering
  covering_each t p h =
      let o = object_where (ends_behind p) (estate_at t (p / 32)) in
      cond_ind P (leb o.base p) o free_object (λ b. where_each (ends_behind p) (estate_at t (p / 32)) h) (λ b. free)

  -- A SEARCH BY A BASE finds the estate and the object of the table, or nothing
  module _ (w : World) (f : Frame) (b r : ℕ) (h : Each P (estate_at w.state.table (b / 32))) where
    found_each : Each P (estate_found (search judged w f (rights (Base b) r))) × P (object_of (search judged w f (rights (Base b) r)))
    found_each = go (judged w.state.table w.words f (Base b) r)
      where
        go : (j : Option ℕ) → Each P (estate_found (found_by w (Base b) j)) × P (object_of (found_by w (Base b) j))
        go (Some pair) = (h, based_each w.state.table b h)
        go None = (λ k. none, free)

    -- another object in that one's place, and that one gone
    pub becomes_each : (place : ℕ) (o : Object) → (P (object_of (search judged w f (rights (Base b) r))) → P o)
        → Each P (with_object (estate_found (search judged w f (rights (Base b) r))) place o)
    becomes_each place o p = put_each P (estate_found (search judged w f (rights (Base b) r))) place o (p found_each.1) found_each.0

    pub goes_each : (place : ℕ) → Each P (remove_object (estate_found (search judged w f (rights (Base b) r))) place)
    goes_each place = remove_each (estate_found (search judged w f (rights (Base b) r))) place found_each.0

-- STATES: of some domains, something that holds of each of them and of each object of their estates
module _ (Of : ℕ → Type 0) (P : Object → Type 0) (Q : Domain → Type 0) where
  pub record Kept (s : State) : Type 0 where
    pub domains : (d : ℕ) → Of d → Q (domain_at s d)
    pub estates : (d : ℕ) → Of d → Each P (estate_at s.table d)

  -- changes that keep it
  abbrev pub Keeps : Change → Type 0
  Keeps (word a x) = Unit {0}
  Keeps (zeros a n) = Unit {0}
  Keeps (estate e x) = Of e → Each P x
  Keeps (domain d m) = Of d → Q m

  abbrev pub AllKeep : List Change → Type 0
  AllKeep [] = Unit {0}
  AllKeep (c ∷ cs) = Keeps c × AllKeep cs

  one_keeps : (c : Change) (w : World) → Keeps c → Kept w.state → Kept (apply_one c w).state
  one_keeps (word a x) w p i = i
  one_keeps (zeros a n) w p i = i
  one_keeps (estate e x) w p i =
      record {
        domains = i.domains;
        estates = λ d m. set_any (Each P) w.state.table.estates e d x no_estate (λ z. p (subst Of z m)) (i.estates d m);
      }
  one_keeps (domain e x) w p i =
      record {
        domains = λ d m. set_any Q w.state.domains e d x no_domain (λ z. p (subst Of z m)) (i.domains d m);
        estates = i.estates;
      }

  all_keep : (cs : List Change) (w : World) → AllKeep cs → Kept w.state → Kept (apply_all cs w).state
  all_keep [] w p i = i
  all_keep (c ∷ cs) w p i = all_keep cs (apply_one c w) p.1 (one_keeps c w p.0 i)

  -- A CALL KEEPS IT where its changes do, once it is done
  pub step_keeps : (w : World) (d : ℕ) (c : Call)
      → (number_of (step w d c).outcome.answer ≡ 0 → Passes w d c → AllKeep (changes d c (view judged w d c)))
      → Kept w.state → Kept (step w d c).outcome.state
  step_keeps w d c p i = go (step_cases w d c)
    where
      go : Refuses w (step w d c) ⊎ ((sound w.state ≡ true) × Does w d c (step w d c)) → Kept (step w d c).outcome.state
      go (inl (why, e)) = rw e i
      go (inr (t, (s, e))) = rw e (all_keep (changes d c (view judged w d c)) w (p (rw e) s) i)
