-- The group's part of a world: the outsiders' estates, domains, accounts and words blanked. What a change does to it.
use Rattle.std.specs.Prelude.{ℕ, ◌+◌, ◌/◌, ◌<◌, ◌≤◌, ◌≡◌, refl, true, false, List, [], ◌∷◌, ◌⊎◌, length, get_or}
use Rattle.std.proofs.Math.Path.{sym}
use Rattle.std.proofs.Common.{ap, ◌∙◌, inl, inr}
use Rattle.bounded.specs.Bools.{flag}
use Rattle.bounded.specs.Sum.{total_same, total_none}
use Rattle.state.specs.Places.{no_estate, no_domain, free_object, object_at, estate_at, domain_at}
use Rattle.state.specs.Lookup.{object_covering, object_based}
use Rattle.state.specs.Pages.{pages_on, estate_pages, pages_of}
use Rattle.state.specs.Laws.Lookup.{based_none, covering_none}
use Rattle.state.specs.Laws.Pages.{none_on}
use Rattle.state.specs.declared.Table.{Table}
use Rattle.state.specs.declared.Domain.{Domain}
use Rattle.calls.specs.View.{World}
use Rattle.calls.specs.Changes.{Change, word, zeros, estate, domain, apply_one, apply_all}
use Rattle.isolation.specs.Group.{Group, member, inside_page, inside_address}
use Rattle.isolation.specs.Mask.{mask, mask_length, mask_in, mask_out, mask_mask, mask_set, mask_set_out, mask_zeroed, mask_zeroed_out}
use Rattle.isolation.specs.Accounts.{accounts_part, accounts_part_lem}

-- the members' estates
unfoldable pub table_part : Group → Table → Table
table_part G t = record { estates = mask (member G) no_estate t.estates }

-- the members' domains
unfoldable pub domains_part : Group → List Domain → List Domain
domains_part G ds = mask (member G) no_domain ds

-- the words of the members' estates
unfoldable pub words_part : Group → List ℕ → List ℕ
words_part G words = mask (inside_address G) 0 words

-- the group's part of a world
abbrev pub part : Group → World → World
part G w =
    record {
      state = record {
        table = table_part G w.state.table;
        domains = domains_part G w.state.domains;
        accounts = accounts_part G w.state.accounts;
      };
      words = words_part G w.words;
    }

-- an estate without objects has no pages
no_pages : (a : ℕ) → estate_pages a no_estate ≡ 0
unfolding estate_pages
no_pages a = total_none 8 (λ k. pages_on a (object_at no_estate k)) (λ k l. none_on a (object_at no_estate k) refl)

module _ (G : Group) where
  -- A member's estate is in the part.
  pub estate_in : (t : Table) (d : ℕ) → member G d ≡ true → estate_at (table_part G t) d ≡ estate_at t d
  unfolding table_part
  estate_in t d h = mask_in (member G) no_estate t.estates d h

  -- An outsider's is not.
  pub estate_out : (t : Table) (d : ℕ) → member G d ≡ false → estate_at (table_part G t) d ≡ no_estate
  unfolding table_part
  estate_out t d h = mask_out (member G) no_estate t.estates d h

  -- A member's domain is in the part.
  pub domain_in : (w : World) (d : ℕ) → member G d ≡ true → domain_at (part G w).state d ≡ domain_at w.state d
  unfolding domains_part
  domain_in w d h = mask_in (member G) no_domain w.state.domains d h

  -- The figure of an account is that of the part, where no outsider's estate has pages on it.
  pub pages_in : (t : Table) (a : ℕ) → ((d : ℕ) → member G d ≡ false → d < 4 → estate_pages a (estate_at t d) ≡ 0) → pages_of (table_part G t) a ≡ pages_of t a
  unfolding pages_of
  pages_in t a h = total_same 4 _ _ (λ d l. each d l (flag (member G d)))
    where
      each : (d : ℕ) → d < 4 → (member G d ≡ true) ⊎ (member G d ≡ false) → estate_pages a (estate_at (table_part G t) d) ≡ estate_pages a (estate_at t d)
      each d l (inl m) = rw (estate_in t d m)
      each d l (inr o) = rw (estate_out t d o) (no_pages a ∙ sym (h d o l))

  -- A word at an inside address is in the part.
  pub word_in : (words : List ℕ) (a : ℕ) → inside_address G a ≡ true → get_or (words_part G words) a 0 ≡ get_or words a 0
  unfolding words_part
  word_in words a h = mask_in (inside_address G) 0 words a h

  -- The part has as many words.
  pub words_length : (words : List ℕ) → length (words_part G words) ≡ length words
  unfolding words_part
  words_length words = mask_length (inside_address G) 0 words

  -- An inside object is found in the part, by its base
  pub based_in : (t : Table) (page : ℕ) → inside_page G page ≡ true → object_based (table_part G t) page ≡ object_based t page
  unfolding object_based
  based_in t page h = rw (estate_in t (page / 32) h)

  -- and by a page of it.
  pub covering_in : (t : Table) (page : ℕ) → inside_page G page ≡ true → object_covering (table_part G t) page ≡ object_covering t page
  unfolding object_covering
  covering_in t page h = rw (estate_in t (page / 32) h)

  -- At an outside page the part has no object, by its base
  pub based_out : (t : Table) (page : ℕ) → inside_page G page ≡ false → object_based (table_part G t) page ≡ free_object
  unfolding object_based
  based_out t page h = rw (estate_out t (page / 32) h) (based_none page)

  -- or by a page of it.
  pub covering_out : (t : Table) (page : ℕ) → inside_page G page ≡ false → object_covering (table_part G t) page ≡ free_object
  unfolding object_covering
  covering_out t page h = rw (estate_out t (page / 32) h) (covering_none page)

  -- The part of the part is the part.
  pub part_part : (w : World) → part G (part G w) ≡ part G w
  unfolding table_part domains_part words_part
  part_part w = simp (mask_mask, accounts_part_lem)

  -- a change shows in the part as if it were made to the part alone
  one_in : (c : Change) (w : World) → part G (apply_one c (part G w)) ≡ part G (apply_one c w)
  unfolding table_part domains_part words_part
  one_in (word a x) w = simp (mask_mask, mask_set, accounts_part_lem)
  one_in (zeros a n) w = simp (mask_mask, mask_zeroed, accounts_part_lem)
  one_in (estate e x) w = simp (mask_mask, mask_set, accounts_part_lem)
  one_in (domain d m) w = simp (mask_mask, mask_set, accounts_part_lem)

  -- Worlds with the same part have the same part after the same changes.
  pub all_in : (cs : List Change) (w w' : World) → part G w ≡ part G w' → part G (apply_all cs w) ≡ part G (apply_all cs w')
  all_in [] w w' e = e
  all_in (c ∷ cs) w w' e = all_in cs (apply_one c w) (apply_one c w') (sym (one_in c w) ∙ ap (λ x. part G (apply_one c x)) e ∙ one_in c w')

  -- a change outside
  abbrev pub Outside : List ℕ → Change → Type 0
  Outside words (word a x) = inside_address G a ≡ false
  Outside words (zeros a n) = (a + n ≤ length words) × ((i : ℕ) → a ≤ i → i < a + n → inside_address G i ≡ false)
  Outside words (estate e x) = member G e ≡ false
  Outside words (domain d m) = member G d ≡ false

  -- each change of a list, where it comes to be made
  abbrev pub AllOutside : World → List Change → Type 0
  AllOutside w [] = Unit {0}
  AllOutside w (c ∷ cs) = Outside w.words c × AllOutside (apply_one c w) cs

  -- a change outside does not show in the part
  one_out : (c : Change) (w : World) → Outside w.words c → part G (apply_one c w) ≡ part G w
  unfolding table_part domains_part words_part
  one_out (word a x) w h = rw (mask_set_out (inside_address G) 0 w.words a x h)
  one_out (zeros a n) w h = rw (mask_zeroed_out (inside_address G) a n w.words h.0 h.1)
  one_out (estate e x) w h = rw (mask_set_out (member G) no_estate w.state.table.estates e x h)
  one_out (domain d m) w h = rw (mask_set_out (member G) no_domain w.state.domains d m h)

  -- Changes outside do not show in the part.
  pub all_out : (cs : List Change) (w : World) → AllOutside w cs → part G (apply_all cs w) ≡ part G w
  all_out [] w h = refl
  all_out (c ∷ cs) w h = all_out cs (apply_one c w) h.1 ∙ one_out c w h.0
