-- What a grant means, and that hints give no rights: document 01, "Rights and capabilities".
use Rattle.std.specs.Prelude.{ℕ, suc, ◌+◌, ◌*◌, ◌/◌, ◌<◌, ◌≤◌, ◌≡◌, refl, true, false, List, eqb, length, get_or, Some}
use Rattle.std.proofs.Common.{ap, ◌∙◌, ⊎_elim, arith}
use Rattle.rights.specs.Modes.{grants}
use Rattle.rights.specs.Bits.{bit}
use Rattle.rights.specs.Laws.{grants_exactly, legal_exactly}
use Rattle.state.specs.Places.{slot_at}
use Rattle.state.specs.Extent.{free}
use Rattle.state.specs.Lookup.{ordinary_mode, mode_of}
use Rattle.state.specs.Laws.Passwords.{Ordinary, has_parts, mode_parts}
use Rattle.soundness.specs.Laws.ObjectParts.{ObjectBounds}
use Rattle.soundness.specs.Laws.Passwords.{ordinary_legal}
use Rattle.state.specs.declared.Object.{Object}
use Rattle.state.specs.declared.Table.{Table}
use Rattle.state.specs.declared.Frame.{Frame}
use Rattle.clists.specs.Clist.{named, zero_pair}
use Rattle.judge.specs.Search.{pair_mode, targeted}
use Rattle.judge.specs.Judged.{judged}
use Rattle.judge.specs.Pairs.{pairs_at, first_word, second_word, address_at, mode_at, TrueFor}
use Rattle.judge.specs.Granting.{PairAt}
use Rattle.judge.specs.Laws.Pairs.{pair_true}
use Rattle.clists.specs.Laws.Live.{grants_some}
use Rattle.clists.specs.Laws.Lists.{list_at_lem, list_length}
use Rattle.judge.specs.Laws.Exactly.{granted_exactly}
use Rattle.judge.specs.Laws.Local.{pairs_local}
use Rattle.judge.specs.declared.Target.{Target}

-- The object stands, the words at `a` and `a + 1` are a capability that is true for it, and the mode of the password grants the wanted rights:
-- it is positive and holds each of them.
pub record TruePair (words : List ℕ) (o : Object) (wanted a : ℕ) : Type 0 where
  pub stands : free o ≡ false
  pub in_store : a + 1 < length words
  pub truth : TrueFor o (get_or words a 0) (get_or words (a + 1) 0)
  pub nonzero : 0 < get_or words (a + 1) 0
  pub granting : grants (mode_of o (get_or words (a + 1) 0)) wanted ≡ true
  pub positive : bit 7 (mode_of o (get_or words (a + 1) 0)) ≡ 0
  pub holds : (right : ℕ) → bit right wanted ≡ 1 → bit right (mode_of o (get_or words (a + 1) 0)) ≡ 1

-- The pair at the address lies in the run of the object that its slot names, and its two words are those in the store.
pub record InClist (t : Table) (words : List ℕ) (f : Frame) (a : ℕ) : Type 0 where
  pub pair : PairAt t words f a
  pub first : first_word t words f pair.slot pair.place ≡ get_or words a 0
  pub second : second_word t words f pair.slot pair.place ≡ get_or words (a + 1) 0
  pub from : 64 * (slot_at f pair.slot).page ≤ a
  pub to : a + 1 < 64 * ((slot_at f pair.slot).page + (named t (slot_at f pair.slot)).pages)

-- a pair that grants some right is such a capability
true_pair : (words : List ℕ) (o : Object) (wanted a : ℕ) → free o ≡ false → a + 1 < length words → eqb wanted 0 ≡ false
    → grants (pair_mode o (get_or words a 0) (get_or words (a + 1) 0)) wanted ≡ true → TruePair words o wanted a
true_pair words o wanted a p l q h =
    let m = pair_true o (get_or words a 0) (get_or words (a + 1) 0) (grants_some (pair_mode o (get_or words a 0) (get_or words (a + 1) 0)) wanted q h) in
    let g : grants (mode_of o (get_or words (a + 1) 0)) wanted ≡ true = rw m.1 at h in
    let bits = (grants_exactly (mode_of o (get_or words (a + 1) 0)) wanted).0 g in
    record {
      stands = p;
      in_store = l;
      truth = m.0;
      nonzero = (has_parts o (get_or words (a + 1) 0) m.0.has).0;
      granting = g;
      positive = bits.0;
      holds = bits.1;
    }

-- the two words of a pair in the store
record PairWords (t : Table) (words : List ℕ) (f : Frame) (slot place a : ℕ) : Type 0 where
  pub first : first_word t words f slot place ≡ get_or words a 0
  pub second : second_word t words f slot place ≡ get_or words (a + 1) 0
  pub in_store : a + 1 < length words
  pub in_run : 2 * place + 1 < 64 * (named t (slot_at f slot)).pages

pair_words : (t : Table) (words : List ℕ) (f : Frame) (slot place a : ℕ) → place < pairs_at t words f slot → a ≡ address_at f slot place
    → PairWords t words f slot place a
pair_words t words f slot place a l e =
    let w = list_at_lem t words f slot (2 * place) (omega arith) in
    let v = list_at_lem t words f slot (2 * place + 1) (omega arith) in
    record {
      first = w.word ∙ ap (λ n. get_or words n 0) (omega arith);
      second = v.word ∙ ap (λ n. get_or words n 0) (omega arith);
      in_store = omega (arith, v.in_store);
      in_run = v.in_run;
    }

module _ (t : Table) (words : List ℕ) (f : Frame) (target : Target) (wanted a : ℕ) (h : judged t words f target wanted ≡ Some a) where
  -- WHAT A GRANT MEANS: the pair at the address answered is true for the object asked for, and grants the wanted rights.
  pub grant_means : TruePair words (targeted t target) wanted a
  grant_means =
      let x = (granted_exactly t words f target wanted a).0 h in
      let p = x.pair.in_clist in
      let w = pair_words t words f p.slot p.place a p.in_list p.address in
      true_pair words (targeted t target) wanted a x.stands w.in_store x.some_right (rw (w.first, w.second) at x.pair.granting)

  -- It stands in the Clist of a live slot.
  pub grant_place : InClist t words f a
  grant_place =
      let p = ((granted_exactly t words f target wanted a).0 h).pair.in_clist in
      let w = pair_words t words f p.slot p.place a p.in_list p.address in
      record { pair = p; first = w.first; second = w.second; from = omega (arith, p.address); to = omega (arith, p.address, w.in_run) }

-- a positive mode with P is that of the registration's password, since an ordinary one has P only beside NOT
registered_mode : (o : Object) (word d : ℕ) → ObjectBounds o d → bit 4 (mode_of o word) ≡ 1 → bit 7 (mode_of o word) ≡ 0 → o.registration.password ≡ word
unfolding bit
registered_mode o word d b p n = let r = mode_parts o word (some (mode_of o word) p) in ⊎_elim (λ g. g.0) (λ g. absurd (ordinary r.0 g.0 g.1)) r.1
  where
    clash : bit 4 0 ≡ 1 → ⊥
    clash h = omega arith

    some : (m : ℕ) → bit 4 m ≡ 1 → 0 < m
    some ℕ.zero h = absurd (clash h)
    some (suc m) h = omega arith

    ordinary : 0 < word → Ordinary o word → mode_of o word ≡ ordinary_mode o word → ⊥
    ordinary w q e =
        let beside = ((legal_exactly (ordinary_mode o word)).0 (ordinary_legal o word d b q w)).pdx_beside_not in
        omega (arith, beside (rw e at p), rw e at n)

-- A grant of P on an object that keeps its bounds is by the password of its registration.
pub grant_registered : (words : List ℕ) (o : Object) (wanted a d : ℕ) → ObjectBounds o d → bit 4 wanted ≡ 1 → TruePair words o wanted a
    → o.registration.password ≡ get_or words (a + 1) 0
grant_registered words o wanted a d b p g = registered_mode o (get_or words (a + 1) 0) d b (g.holds 4 p) g.positive

-- Two stores that differ in the hints alone: the first word of a pair, at an even address, agrees in its page, the second in all; and both
-- have the same pairs of two zero words, since the end of a list is told by whole words.
pub record SameButHints (words words' : List ℕ) : Type 0 where
  pub long : length words ≡ length words'
  pub pages : (n : ℕ) → get_or words (2 * n) 0 / 256 ≡ get_or words' (2 * n) 0 / 256
  pub passwords : (n : ℕ) → get_or words (2 * n + 1) 0 ≡ get_or words' (2 * n + 1) 0
  pub zeros : (n : ℕ) → zero_pair words n ≡ zero_pair words' n

hint_mode : (o : Object) (word word' password : ℕ) → word / 256 ≡ word' / 256 → pair_mode o word password ≡ pair_mode o word' password
unfolding pair_mode
hint_mode o word word' password e = rw e

-- HINTS GIVE NO RIGHTS: such stores are judged alike.
pub hints_ignored : (t : Table) (words words' : List ℕ) (f : Frame) (target : Target) (wanted : ℕ) → SameButHints words words'
    → judged t words f target wanted ≡ judged t words' f target wanted
hints_ignored t words words' f target wanted m =
    pairs_local t t words words' f target wanted refl
    (λ k l. record { pairs = ap (λ n. n / 2) (list_length t words words' f k m.long m.zeros); modes = modes k })
  where
    modes : (k i : ℕ) → i < pairs_at t words f k → mode_at t words f (targeted t target) k i ≡ mode_at t words' f (targeted t target) k i
    modes k i l =
        let n : ℕ = 32 * (slot_at f k).page + i in
        let w = pair_words t words f k i (2 * n) l (omega arith) in
        let v = pair_words t words' f k i (2 * n) (omega (arith, list_length t words words' f k m.long m.zeros)) (omega arith) in
        rw (w.first, w.second, v.first, v.second, m.passwords n) (hint_mode (targeted t target) _ _ _ (m.pages n))
