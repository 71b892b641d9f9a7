-- What an access answers, for any rights: granted or refused, from what checks 2, 5 and 7 give.
use Rattle.std.specs.Prelude.{ℕ, ◌<◌, ◌≡◌, Bool, true, false, cond, ◌&&◌, List, [], ◌∷◌, ltb, eqb, length, get_or, set, Option, Some, None, Result, Ok, Err}
use Rattle.std.proofs.Math.Path.{refl}
use Rattle.std.proofs.Common.{ap, sym, ◌∙◌, arith, eqb-true, ltb-true, lt-ltb}
use Rattle.rights.specs.Modes.{read, write, execute}
use Rattle.state.specs.Places.{domain_at}
use Rattle.state.specs.declared.Table.{Table}
use Rattle.state.specs.declared.Frame.{Frame}
use Rattle.state.specs.declared.State.{State}
use Rattle.judge.specs.Judged.{judged}
use Rattle.judge.specs.declared.Target.TheVariants.{Address}
use Rattle.calls.specs.View.{World, rights, search, check, is_some}
use Rattle.calls.specs.Rules.{rule, in_range, unlocked, late, changes, view}
use Rattle.calls.specs.Step.{world, result_of, answered_with, done, unchecked}
use Rattle.calls.specs.Parts.{Answers}
use Rattle.calls.specs.Laws.Returns.{by_caller, by_range, by_late, by_done}
use Rattle.calls.specs.declared.Call.TheVariants.{OnStore}
use Rattle.calls.specs.declared.Access.{Access}
use Rattle.calls.specs.declared.Access.TheVariants.{Read, Write, Execute, Lookup}
use Rattle.calls.specs.Answers.{Answer}
use Rattle.calls.specs.declared.Refusal.{Refusal}
use Rattle.calls.specs.declared.Refusal.TheVariants.{StoreLength, OutOfRange, NotGranted}
use Rattle.access_calls.specs.Accessed.{grant_of, accessed_by}

-- a granted address lies in the store, and its judgement is the grant
granted_by : (n a : ℕ) (j : Option ℕ) {pair : ℕ} → accessed_by n a j ≡ Ok pair → (n ≡ 8192) × (a < 8192) × (j ≡ Some pair)
granted_by n a j {pair} h = go (eqb n 8192) (ltb a 8192) refl refl j h
  where
    go : (l b : Bool) → eqb n 8192 ≡ l → ltb a 8192 ≡ b → (j : Option ℕ)
        → cond l (cond b (grant_of j) (Err OutOfRange)) (Err StoreLength) ≡ Ok pair → (n ≡ 8192) × (a < 8192) × (j ≡ Some pair)
    go true true i e (Some p) k = (eqb-true n 8192 i, ltb-true a 8192 e, cc)
    go true true i e None k = let z : ◌≡◌ {A = ℕ} 0 1 = cc in absurd (omega arith)
    go true false i e j k = let z : ◌≡◌ {A = ℕ} 0 1 = cc in absurd (omega arith)
    go false b i e j k = let z : ◌≡◌ {A = ℕ} 0 1 = cc in absurd (omega arith)

-- rights in range leave the address's range alone
rights_range : (a r : ℕ) → ltb 0 r && ltb r 32 ≡ true → in_range (OnStore (Lookup a r)) ≡ ltb a 8192
unfolding in_range
rights_range a r k = go (ltb a 8192)
  where
    go : (b : Bool) → b && ltb 0 r && ltb r 32 ≡ b
    go true = k
    go false = refl

-- and others are out of it
pub rights_out : (a r : ℕ) → ltb 0 r && ltb r 32 ≡ false → in_range (OnStore (Lookup a r)) ≡ false
unfolding in_range
rights_out a r k = go (ltb a 8192) (ltb 0 r) (ltb r 32) k
  where
    go : (x y z : Bool) → y && z ≡ false → x && y && z ≡ false
    go true y z h = h
    go false y z h = refl

-- an access at `a` for the rights `r`: the address is its only range, no lock stops it, and check 7 is its search
module _ (t : Table) (f : Frame) (words : List ℕ) (c : Access) (a r : ℕ) (range : in_range (OnStore c) ≡ ltb a 8192)
    (free : (g : Frame) → unlocked (OnStore c) g ≡ true)
    (asks : (d : ℕ) (w : World) → late d (OnStore c) (view judged w d (OnStore c)) ≡ check NotGranted (is_some (search judged w (domain_at w.state d).active (rights (Address a) r))) ∷ []) where
  -- refused where checks 2, 5 and 7 refuse it
  access_refused : {why : Refusal} → accessed_by (length words) a (judged t words f (Address a) r) ≡ Err why
      → Answers t f words c (Err why) words
  access_refused {why} h s d e p q = go (eqb (length words) 8192) (ltb a 8192) refl refl (judged t words f (Address a) r) refl h
    where
      go : (l b : Bool) → eqb (length words) 8192 ≡ l → ltb a 8192 ≡ b → (j : Option ℕ) → judged t words f (Address a) r ≡ j
          → cond l (cond b (grant_of j) (Err OutOfRange)) (Err StoreLength) ≡ Err why
          → result_of (answered_with s (Err why)) words ≡ unchecked (world s words) d (OnStore c)
      go true true n i (Some pair) g k = let z : ◌≡◌ {A = ℕ} 0 1 = cc in absurd (omega arith)
      go true true n i None g k =
          let w : why ≡ NotGranted = cc in
          by_late s words d (OnStore c) (record { long = eqb-true _ 8192 n; known = e }) {why = NotGranted} (range ∙ i) (free _) (rw (asks d (world s words), p, q, g)) (rw w)
      go true false n i j g k =
          let w : why ≡ OutOfRange = cc in
          by_range s words d (OnStore c) (record { long = eqb-true _ 8192 n; known = e }) (range ∙ i) (rw w)
      go false b n i j g k = let w : StoreLength ≡ why = cc in by_caller s words d (OnStore c) why (rw n (ap Err w))

  -- done where it is granted
  access_granted : {pair : ℕ} {x : Answer} {words' : List ℕ} → accessed_by (length words) a (judged t words f (Address a) r) ≡ Ok pair
      → ((s : State) (d : ℕ) → judged s.table words (domain_at s d).active (Address a) r ≡ Some pair
      → result_of (answered_with s x) words' ≡ done (world s words) d (OnStore c) (view judged (world s words) d (OnStore c)))
      → Answers t f words c x words'
  access_granted {pair} h k s d e p q =
      let (n, l, g) = granted_by (length words) a (judged t words f (Address a) r) h in
      let u : judged s.table words (domain_at s d).active (Address a) r ≡ Some pair = rw (p, q) g in
      by_done s words d (OnStore c) (record { long = n; known = e }) (range ∙ lt-ltb a 8192 l) (free _) (rw (asks d (world s words), u)) (k s d u)

-- the address of an access, the rights that it wants, and whether these are in range
abbrev pub address_of : Access → ℕ
address_of (Read a) = a
address_of (Write a x) = a
address_of (Execute a) = a
address_of (Lookup a r) = a

abbrev pub rights_of : Access → ℕ
rights_of (Read a) = read
rights_of (Write a x) = write
rights_of (Execute a) = execute
rights_of (Lookup a r) = r

abbrev pub rights_ok : Access → Bool
rights_ok (Read a) = true
rights_ok (Write a x) = true
rights_ok (Execute a) = true
rights_ok (Lookup a r) = ltb 0 r && ltb r 32

-- what a granted one answers, and the words that it leaves
abbrev pub gives : Access → List ℕ → ℕ → ℕ
gives (Read a) words pair = get_or words a 0
gives (Write a x) words pair = 0
gives (Execute a) words pair = a
gives (Lookup a r) words pair = pair

abbrev pub leaves : Access → List ℕ → List ℕ
leaves (Read a) words = words
leaves (Write a x) words = set words a x
leaves (Execute a) words = words
leaves (Lookup a r) words = words

module _ (t : Table) (f : Frame) (words : List ℕ) where
  -- what checks 2, 5 and 7 give an access
  abbrev pub grant_to : Access → Result ℕ Refusal
  grant_to c = accessed_by (length words) (address_of c) (judged t words f (Address (address_of c)) (rights_of c))

  -- a granted one lies in the store
  pub within : (c : Access) {pair : ℕ} → grant_to c ≡ Ok pair → address_of c < length words
  within c h =
      let (n, l, g) = granted_by (length words) (address_of c) (judged t words f (Address (address_of c)) (rights_of c)) h in
      omega arith

  -- AN ACCESS IS REFUSED AS CHECKS 2, 5 AND 7 REFUSE IT
  pub refused : (c : Access) {why : Refusal} → rights_ok c ≡ true → grant_to c ≡ Err why → Answers t f words c (Err why) words
  unfolding in_range unlocked late view
  refused (Read a) k h = access_refused t f words (Read a) a read refl (λ g. refl) (λ d w. refl) h
  refused (Write a x) k h = access_refused t f words (Write a x) a write refl (λ g. refl) (λ d w. refl) h
  refused (Execute a) k h = access_refused t f words (Execute a) a execute refl (λ g. refl) (λ d w. refl) h
  refused (Lookup a r) k h = access_refused t f words (Lookup a r) a r (rights_range a r k) (λ g. refl) (λ d w. refl) h

  -- AND DONE WHERE IT IS GRANTED
  pub granted : (c : Access) {pair : ℕ} → rights_ok c ≡ true → grant_to c ≡ Ok pair → Answers t f words c (Ok (gives c words pair)) (leaves c words)
  unfolding in_range unlocked late view changes rule
  granted (Read a) k h = access_granted t f words (Read a) a read refl (λ g. refl) (λ d w. refl) h (λ s d u. rw u)
  granted (Write a x) k h = access_granted t f words (Write a x) a write refl (λ g. refl) (λ d w. refl) h (λ s d u. refl)
  granted (Execute a) k h = access_granted t f words (Execute a) a execute refl (λ g. refl) (λ d w. refl) h (λ s d u. refl)
  granted (Lookup a r) k h = access_granted t f words (Lookup a r) a r (rights_range a r k) (λ g. refl) (λ d w. refl) h (λ s d u. rw u)

  -- LK is answered as its access comes out
  pub looked_up : (a r : ℕ) (x : Result ℕ Refusal) → rights_ok (Lookup a r) ≡ true → x ≡ grant_to (Lookup a r) → Answers t f words (Lookup a r) x words
  looked_up a r (Ok pair) k h = granted (Lookup a r) k (sym h)
  looked_up a r (Err why) k h = refused (Lookup a r) k (sym h)
