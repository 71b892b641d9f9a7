-- What stands behind the ends of the caller's lists decides no call: document 02, T-01.
use Rattle.std.specs.Prelude.{ℕ, suc, ◌*◌, ◌≡◌, List, [], ◌∷◌, ◌++◌, length, get_or, set, drop, replicate, Option, Some, None, Ok}
use Rattle.std.proofs.Math.Path.{refl}
use Rattle.std.proofs.Common.{ap, zero-add, suc-add, arith}
use Rattle.std.proofs.Math.Nat.{suc_inj}
use Rattle.state.specs.Places.{domain_at}
use Rattle.state.specs.declared.Frame.{Frame}
use Rattle.state.specs.declared.State.{State}
use Rattle.judge.specs.Laws.Behind.{SameToEnds, behind_ignored}
use Rattle.calls.specs.Answers.{number_of}
use Rattle.calls.specs.View.{Want, nothing, rights, View, first_failing}
use Rattle.calls.specs.Changes.{zeroed, apply_all}
use Rattle.calls.specs.Rules.{wanted, early, late, checks, view, value, fields, changes}
use Rattle.calls.specs.Step.{Result, world, concluded, store_check, sound_check, step_by, step}
use Rattle.calls.specs.Laws.Viewed.{judged_on, search_given, sees}
use Rattle.calls.specs.declared.Call.{Call}
use Rattle.calls.specs.declared.Call.TheVariants.{OnStore, OnObject, OnDomain}
use Rattle.calls.specs.declared.Access.{Access}
use Rattle.calls.specs.declared.Access.TheVariants.{Read, Write, Execute, Lookup}
use Rattle.calls.specs.declared.ObjectCall.{ObjectCall}
use Rattle.calls.specs.declared.ObjectCall.TheVariants.{Create, Delete, AddPassword, DropPassword, Register}
use Rattle.calls.specs.declared.DomainCall.{DomainCall}
use Rattle.calls.specs.declared.DomainCall.TheVariants.{Insert, Remove, Get, Lock, PdxCall, PdxReturn}
use Rattle.calls.specs.declared.Refusal.{Refusal}

-- two stores of the same length that agree at a place agree there once both are written alike
set_alike : (ws ws' : List ℕ) (a x b : ℕ) → length ws ≡ length ws' → get_or ws b 0 ≡ get_or ws' b 0 → get_or (set ws a x) b 0 ≡ get_or (set ws' a x) b 0
set_alike [] [] a x b n h = h
set_alike [] (y' ∷ ws') a x b n h = absurd (omega arith)
set_alike (y ∷ ws) [] a x b n h = absurd (omega arith)
set_alike (y ∷ ws) (y' ∷ ws') ℕ.zero x ℕ.zero n h = refl
set_alike (y ∷ ws) (y' ∷ ws') ℕ.zero x (suc b) n h = h
set_alike (y ∷ ws) (y' ∷ ws') (suc a) x ℕ.zero n h = h
set_alike (y ∷ ws) (y' ∷ ws') (suc a) x (suc b) n h = set_alike ws ws' a x b (suc_inj n) h

-- and once both are zeroed alike
zeros_alike : (n : ℕ) (ws ws' : List ℕ) (b : ℕ) → length ws ≡ length ws' → get_or ws b 0 ≡ get_or ws' b 0
    → get_or (replicate n 0 ++ drop n ws) b 0 ≡ get_or (replicate n 0 ++ drop n ws') b 0
zeros_alike ℕ.zero ws ws' b l h = h
zeros_alike (suc n) [] [] b l h = refl
zeros_alike (suc n) [] (y' ∷ ws') b l h = absurd (omega arith)
zeros_alike (suc n) (y ∷ ws) [] b l h = absurd (omega arith)
zeros_alike (suc n) (y ∷ ws) (y' ∷ ws') ℕ.zero l h = refl
zeros_alike (suc n) (y ∷ ws) (y' ∷ ws') (suc b) l h = zeros_alike n ws ws' b (suc_inj l) h

zeroed_alike : (a n : ℕ) (ws ws' : List ℕ) (b : ℕ) → length ws ≡ length ws' → get_or ws b 0 ≡ get_or ws' b 0
    → get_or (zeroed a n ws) b 0 ≡ get_or (zeroed a n ws') b 0
unfolding zeroed
zeroed_alike ℕ.zero n ws ws' b l h = rw zero-add (zeros_alike n ws ws' b l h)
zeroed_alike (suc a) n [] [] b l h = refl
zeroed_alike (suc a) n [] (y' ∷ ws') b l h = absurd (omega arith)
zeroed_alike (suc a) n (y ∷ ws) [] b l h = absurd (omega arith)
zeroed_alike (suc a) n (y ∷ ws) (y' ∷ ws') ℕ.zero l h = h
zeroed_alike (suc a) n (y ∷ ws) (y' ∷ ws') (suc b) l h = rw suc-add (zeroed_alike a n ws ws' b (suc_inj l) h)

-- a call reads no word that differs between two stores: RD alone gives a word
abbrev pub SameWord : List ℕ → List ℕ → Call → Type 0
SameWord words words' (OnStore (Read a)) = get_or words a 0 ≡ get_or words' a 0
SameWord words words' (OnStore (Write a x)) = Unit {0}
SameWord words words' (OnStore (Execute a)) = Unit {0}
SameWord words words' (OnStore (Lookup a r)) = Unit {0}
SameWord words words' (OnObject c) = Unit {0}
SameWord words words' (OnDomain c) = Unit {0}

-- each word that was the same before is the same after
abbrev pub SameAfter : List ℕ → List ℕ → List ℕ → List ℕ → Type 0
SameAfter words words' after after' = (a : ℕ) → get_or words a 0 ≡ get_or words' a 0 → get_or after a 0 ≡ get_or after' a 0

-- A call on one state with two stores has the same number and fields, the same value but for a word that is read, and leaves the same state
-- and the same words but for those that differed.
pub record AnsweredAlike (words words' : List ℕ) (c : Call) (r r' : Result) : Type 0 where
  pub number : number_of r.outcome.answer ≡ number_of r'.outcome.answer
  pub answer : SameWord words words' c → r.outcome.answer ≡ r'.outcome.answer
  pub fields : r.outcome.fields ≡ r'.outcome.fields
  pub state : r.outcome.state ≡ r'.outcome.state
  pub after : SameAfter words words' r.words r'.words

module _ (s : State) (words words' : List ℕ) (d : ℕ) (m : SameToEnds s.table words words' (domain_at s d).active) where
  -- by two views the call has the same checks, value and fields, and leaves the same
  abbrev ComesAlike : Call → View → View → Type 0
  ComesAlike c v v' =
      (late d c v ≡ late d c v') × (SameWord words words' c → value c v ≡ value c v') × (fields c v ≡ fields c v')
      × ((apply_all (changes d c v) (world s words)).state ≡ (apply_all (changes d c v') (world s words')).state)
      × SameAfter words words' (apply_all (changes d c v) (world s words)).words (apply_all (changes d c v') (world s words')).words

  access_alike : (c : Access) (j : Option ℕ) → ComesAlike (OnStore c) (sees (world s words) d (OnStore c) j) (sees (world s words') d (OnStore c) j)
  unfolding late changes
  access_alike (Read a) (Some p) = (refl, (λ e. e), refl, refl, λ a h. h)
  access_alike (Read a) None = (refl, (λ e. refl), refl, refl, λ a h. h)
  access_alike (Write a x) (Some p) = (refl, (λ e. refl), refl, refl, λ b h. set_alike words words' a x b m.long h)
  access_alike (Write a x) None = (refl, (λ e. refl), refl, refl, λ b h. set_alike words words' a x b m.long h)
  access_alike (Execute a) (Some p) = (refl, (λ e. refl), refl, refl, λ a h. h)
  access_alike (Execute a) None = (refl, (λ e. refl), refl, refl, λ a h. h)
  access_alike (Lookup a r) (Some p) = (refl, (λ e. refl), refl, refl, λ a h. h)
  access_alike (Lookup a r) None = (refl, (λ e. refl), refl, refl, λ a h. h)

  object_alike : (c : ObjectCall) (j : Option ℕ) → ComesAlike (OnObject c) (sees (world s words) d (OnObject c) j) (sees (world s words') d (OnObject c) j)
  unfolding late changes
  object_alike (Create p n k a) j = (refl, (λ e. refl), refl, refl, λ b h. zeroed_alike (64 * p) (64 * n) words words' b m.long h)
  object_alike (Delete b) (Some p) = (refl, (λ e. refl), refl, refl, λ a h. h)
  object_alike (Delete b) None = (refl, (λ e. refl), refl, refl, λ a h. h)
  object_alike (AddPassword b k m) (Some p) = (refl, (λ e. refl), refl, refl, λ a h. h)
  object_alike (AddPassword b k m) None = (refl, (λ e. refl), refl, refl, λ a h. h)
  object_alike (DropPassword b k) (Some p) = (refl, (λ e. refl), refl, refl, λ a h. h)
  object_alike (DropPassword b k) None = (refl, (λ e. refl), refl, refl, λ a h. h)
  object_alike (Register b k x es) (Some p) = (refl, (λ e. refl), refl, refl, λ a h. h)
  object_alike (Register b k x es) None = (refl, (λ e. refl), refl, refl, λ a h. h)

  domain_alike : (c : DomainCall) (j : Option ℕ) → ComesAlike (OnDomain c) (sees (world s words) d (OnDomain c) j) (sees (world s words') d (OnDomain c) j)
  unfolding late changes
  domain_alike (Insert i x) j = (refl, (λ e. refl), refl, refl, λ a h. h)
  domain_alike (Remove i) j = (refl, (λ e. refl), refl, refl, λ a h. h)
  domain_alike Get j = (refl, (λ e. refl), refl, refl, λ a h. h)
  domain_alike (Lock i) j = (refl, (λ e. refl), refl, refl, λ a h. h)
  domain_alike (PdxCall a ch) (Some p) = (refl, (λ e. refl), refl, refl, λ a h. h)
  domain_alike (PdxCall a ch) None = (refl, (λ e. refl), refl, refl, λ a h. h)
  domain_alike PdxReturn j = (refl, (λ e. refl), refl, refl, λ a h. h)

  comes_alike : (c : Call) (j : Option ℕ) → ComesAlike c (sees (world s words) d c j) (sees (world s words') d c j)
  comes_alike (OnStore c) j = access_alike c j
  comes_alike (OnObject c) j = object_alike c j
  comes_alike (OnDomain c) j = domain_alike c j

  -- WHAT STANDS BEHIND THE ENDS DECIDES NO CALL: two stores that differ only behind the ends of the caller's live lists answer it alike.
  pub behind_apart : (c : Call) → AnsweredAlike words words' c (step (world s words) d c) (step (world s words') d c)
  unfolding step_by checks view
  behind_apart c =
      rw (← m.long, search_given (world s words) f (wanted c), search_given (world s words') f (wanted c), ← same (wanted c), ← v.0)
      (go (first_failing (store_check (world s words) ∷ sound_check (world s words) ∷ early d c f ++ late d c (sees (world s words) d c j))))
    where
      f : Frame
      f = (domain_at s d).active

      j : Option ℕ
      j = judged_on (world s words) f (wanted c)

      v : ComesAlike c (sees (world s words) d c j) (sees (world s words') d c j)
      v = comes_alike c j

      same : (want : Want) → judged_on (world s words) f want ≡ judged_on (world s words') f want
      same nothing = refl
      same (rights target r) = behind_ignored s.table words words' f target r m

      go : (o : Option Refusal) → AnsweredAlike words words' c (concluded o (world s words) d c (sees (world s words) d c j)) (concluded o (world s words') d c (sees (world s words') d c j))
      go None = record { number = refl; answer = λ e. ap Ok (v.1 e); fields = v.2; state = v.3; after = v.4 }
      go (Some r) = record { number = refl; answer = λ e. refl; fields = refl; state = refl; after = λ a h. h }
