-- What a member's call reads is inside: it sees in the group's part what it sees in the whole world.
use Rattle.std.specs.Prelude.{ℕ, ◌+◌, ◌*◌, ◌/◌, ◌<◌, ◌≤◌, ◌≡◌, refl, true, false, List, ◌⊎◌, Option, Some, None}
use Rattle.std.proofs.Common.{sym, ap, ◌∙◌, true≢false, inl, inr, ⊎_elim, arith, eq-eqb}
use Rattle.std.proofs.lemmas.Bool.{not-true}
use Rattle.bounded.specs.Bools.{flag, unless, same_or_not}
use Rattle.state.specs.Places.{free_object, slot_at, domain_at}
use Rattle.state.specs.Extent.{free}
use Rattle.state.specs.Lookup.{object_based, has_password}
use Rattle.state.specs.Pages.{may_charge}
use Rattle.state.specs.Laws.Lookup.{base_standing, based_base}
use Rattle.soundness.specs.Sound.{sound}
use Rattle.soundness.specs.Laws.Found.{based_answered, covering_answered, covering_based}
use Rattle.state.specs.declared.Capability.{Capability}
use Rattle.state.specs.declared.Table.{Table}
use Rattle.state.specs.declared.Frame.{Frame}
use Rattle.state.specs.declared.Accounts.{Accounts}
use Rattle.clists.specs.Clist.{named, live, run_words, list_at}
use Rattle.judge.specs.Search.{targeted}
use Rattle.judge.specs.Judged.{judged}
use Rattle.clists.specs.Laws.Live.{live_named, live_base, live_holds, live_local}
use Rattle.clists.specs.Laws.Ends.{reach}
use Rattle.clists.specs.Laws.Lists.{run_short, SameClist, list_same}
use Rattle.judge.specs.Laws.Local.{same_local, untrue_refused, free_refused}
use Rattle.judge.specs.declared.Target.{Target}
use Rattle.judge.specs.declared.Target.TheVariants.{Address, Base}
use Rattle.calls.specs.View.{Want, nothing, rights, Charge, World, first_failing, page_of, found_by, search, passes, permitted, within_limit}
use Rattle.calls.specs.Rules.{wanted, presented, charged, early, view}
use Rattle.calls.specs.Runs.{Event}
use Rattle.calls.specs.declared.Presented.{Presented}
use Rattle.isolation.specs.Group.{Group, member, inside_page}
use Rattle.isolation.specs.Premises.{stays_inside, HeldInside, FrameInside, ListsInside, wants, MemberCall}
use Rattle.isolation.specs.Accounts.{accounts_part, member_inside, charge_in, limit_in}
use Rattle.isolation.specs.Part.{table_part, words_part, part, estate_in, domain_in, pages_in, word_in, words_length, based_in, covering_in, based_out, covering_out}
use Rattle.isolation.proofs.Charged.{ChargedApart, outside_none}

-- a capability that stays inside shows no password of the object at an outside page
not_held : (G : Group) (t : Table) (page password : ℕ) → stays_inside G t page password ≡ true → inside_page G page ≡ false
    → has_password (object_based t page) password ≡ false
unfolding stays_inside
not_held G t page password k o = not-true _ (unless (inside_page G page) _ k o)

-- a capability that stays inside
module _ (G : Group) (t : Table) (c : Capability) (k : stays_inside G t c.page c.password ≡ true) where
  -- names an inside page where it is live
  pub live_inside : live t c ≡ true → inside_page G c.page ≡ true
  live_inside a =
      ⊎_elim (λ i. i) (λ o. absurd (true≢false (sym (live_holds t c a) ∙ not_held G t c.page c.password k o))) (flag (inside_page G c.page))

  -- and is live in the part exactly where it is live
  live_in : live (table_part G t) c ≡ live t c
  live_in = go (flag (inside_page G c.page)) (flag (live (table_part G t) c)) (flag (live t c))
    where
      go : (inside_page G c.page ≡ true) ⊎ (inside_page G c.page ≡ false) → (live (table_part G t) c ≡ true) ⊎ (live (table_part G t) c ≡ false)
          → (live t c ≡ true) ⊎ (live t c ≡ false) → live (table_part G t) c ≡ live t c
      go (inl i) b a = live_local (table_part G t) t c (based_in G t c.page i)
      go (inr o) (inl b) a =
          let stands = base_standing c.page (named (table_part G t) c) (live_named (table_part G t) c b) in
          absurd (omega (arith, ap (λ x. x.pages) (based_out G t c.page o)))
      go (inr o) (inr b) (inl a) = absurd (true≢false (sym (live_inside a) ∙ o))
      go (inr o) (inr b) (inr a) = b ∙ sym a

module _ (G : Group) (w : World) (ok : sound w.state ≡ true) where
  -- the object table and the words, whole and in the part
  abbrev t : Table
  t = w.state.table

  abbrev t' : Table
  t' = table_part G t

  abbrev words' : List ℕ
  words' = words_part G w.words

  -- the Clist of a capability that stays inside lies inside
  clist_in : (c : Capability) → stays_inside G t c.page c.password ≡ true → SameClist t t' w.words words' c
  clist_in c k =
      record {
        alive = sym (live_in G t c k);
        pages = λ a. rw (based_in G t c.page (live_inside G t c k a));
        content = λ a n from to. sym (word_in G w.words n (rw (own a n from to) (live_inside G t c k a)));
      }
    where
      own : live t c ≡ true → (n : ℕ) → 64 * c.page ≤ n → n < 64 * c.page + reach (run_words w.words c.page (named t c).pages)
          → n / 64 / 32 ≡ c.page / 32
      own a n from to =
          let b = (based_answered w.state c.page ok).bounds (base_standing c.page (named t c) (live_named t c a)) in
          let e = live_base t c a in
          let m = run_short w.words c.page (named t c).pages in
          omega arith

  -- the Clists that a frame's slots name are the same in the part
  lists_in : (f : Frame) → FrameInside G t f → (slot : ℕ) → list_at t w.words f slot ≡ list_at t' words' f slot
  lists_in f k slot = list_same t t' w.words words' f slot (sym (words_length G w.words)) (λ l. clist_in (slot_at f slot) (k slot l))

  -- the object asked for is the same in the part where it is inside
  target_in : (target : Target) → inside_page G (page_of target) ≡ true → targeted t target ≡ targeted t' target
  target_in (Address a) i = sym (covering_in G t (a / 64) i)
  target_in (Base b) i = sym (based_in G t b i)

  -- and none where it is outside
  target_out : (target : Target) → inside_page G (page_of target) ≡ false → targeted t' target ≡ free_object
  target_out (Address a) o = covering_out G t (a / 64) o
  target_out (Base b) o = based_out G t b o

  -- an object asked for that stands is the one with its base, in the estate of the page asked for
  pub target_own : (target : Target) → 0 < (targeted t target).pages
      → (object_based t (targeted t target).base ≡ targeted t target) × ((targeted t target).base / 32 ≡ page_of target / 32)
  target_own (Address a) p =
      let b = (covering_answered w.state (a / 64) ok).bounds p in
      (covering_based w.state (a / 64) ok p, omega arith)
  target_own (Base b) p = let e = based_base t b p in (ap (object_based t) e, ap (λ n. n / 32) e)

  -- an object inside is judged alike in the part
  judged_in : (f : Frame) (target : Target) (r : ℕ) → FrameInside G t f → inside_page G (page_of target) ≡ true
      → judged t w.words f target r ≡ judged t' words' f target r
  judged_in f target r k i = same_local t t' w.words words' f target r (target_in target i) (λ slot l. lists_in f k slot)

  -- an object outside is refused: no pair of the lists is true for it
  pub judged_out : (f : Frame) (target : Target) (r : ℕ) → ListsInside G w f → inside_page G (page_of target) ≡ false
      → judged t w.words f target r ≡ None
  judged_out f target r lists o =
      ⊎_elim (λ z. free_refused t w.words f target r (eq-eqb _ 0 z))
      (λ n. untrue_refused t w.words f target r
      (λ slot place l m x. let (same, own) = target_own target (omega arith) in
      let k = rw x.page at (lists slot place l m) in
      true≢false (sym x.has ∙ rw same at (not_held G t _ _ k (rw own o)))))
      (same_or_not (targeted t target).pages 0)

  -- what is found inside is the same in the part
  found_in : (target : Target) → inside_page G (page_of target) ≡ true → (j : Option ℕ) → found_by (part G w) target j ≡ found_by w target j
  found_in (Address a) i (Some pair) = rw (covering_in G t (a / 64) i, estate_in G t (a / 64 / 32) i, word_in G w.words a i)
  found_in (Base b) i (Some pair) = rw (based_in G t b i, estate_in G t (b / 32) i)
  found_in target i None = refl

  -- a member's search gives the same in the part
  search_in : (f : Frame) (want : Want) → FrameInside G t f → (wants want ≡ true → ListsInside G w f)
      → search judged (part G w) f want ≡ search judged w f want
  search_in f nothing k lists = refl
  search_in f (rights target r) k lists = go (flag (inside_page G (page_of target)))
    where
      go : (inside_page G (page_of target) ≡ true) ⊎ (inside_page G (page_of target) ≡ false)
          → search judged (part G w) f (rights target r) ≡ search judged w f (rights target r)
      go (inl i) = rw (← judged_in f target r k i) (found_in target i (judged t w.words f target r))
      go (inr o) = rw (free_refused t' words' f target r (ap free (target_out target o)), judged_out f target r (lists refl) o)

  -- what a call presents is live in the part exactly where it is live
  presented_in : (l : Option Presented) → HeldInside G t l → passes t' l ≡ passes t l
  presented_in None k = refl
  presented_in (Some l) k = live_in G t (record { page = l.page; password = l.password }) k

  -- the accounts, whole and in the part
  abbrev x : Accounts
  x = w.state.accounts

  abbrev x' : Accounts
  x' = accounts_part G x

  -- a member may charge the same accounts in the part
  permits_in : (d : ℕ) → member G d ≡ true → (c : Option Charge) → permitted x' d c ≡ permitted x d c
  permits_in d m None = refl
  permits_in d m (Some c) = charge_in G x d c.account m

  -- and finds the same figure and limit, where no object outside is on such an account
  fits_in : ChargedApart G w.state → (d : ℕ) → member G d ≡ true → (c : Option Charge) → within_limit t' x' d c ≡ within_limit t x d c
  fits_in i d m None = refl
  fits_in i d m (Some c) = go (flag (may_charge x d c.account))
    where
      go : (may_charge x d c.account ≡ true) ⊎ (may_charge x d c.account ≡ false) → within_limit t' x' d (Some c) ≡ within_limit t x d (Some c)
      go (inl p) =
          let inside = member_inside G x d c.account m p in
          rw (charge_in G x d c.account m, pages_in G t c.account (outside_none G w.state i c.account inside), limit_in G x c.account inside)
      go (inr f) = rw (charge_in G x d c.account m, f)

  -- A MEMBER'S CALL THAT GETS AS FAR AS JUDGING SEES THE SAME IN THE PART as in the whole world, under the premises.
  pub view_in : (e : Event) → member G e.domain ≡ true → FrameInside G w.state.table (domain_at w.state e.domain).active
      → MemberCall G w e → ChargedApart G w.state → first_failing (early e.domain e.call (domain_at w.state e.domain).active) ≡ None
      → view judged (part G w) e.domain e.call ≡ view judged w e.domain e.call
  unfolding view
  view_in e m k call i p =
      rw (
        domain_in G w e.domain m,
        estate_in G t e.domain m,
        presented_in (presented e.call) call.held,
        permits_in e.domain m (charged e.call),
        fits_in i e.domain m (charged e.call),
        search_in (domain_at w.state e.domain).active (wanted e.call) k (λ a. call.lists (record { reached = p; asks = a })),
      )
