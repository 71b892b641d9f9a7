-- The view of a call: all that it reads, with the search of document 01, "How an access is judged". And what a check is.
use Rattle.std.specs.Prelude.{ℕ, ◌+◌, ◌/◌, Bool, true, false, not, cond, ◌||◌, List, [], ◌∷◌, leb, get_or, Option, Some, None}
use Rattle.state.specs.Places.{no_estate, free_object, estate_of, limit_at}
use Rattle.state.specs.Pages.{pages_of, may_charge}
use Rattle.state.specs.declared.Object.{Object}
use Rattle.state.specs.declared.Estate.{Estate}
use Rattle.state.specs.declared.Table.{Table}
use Rattle.state.specs.declared.Frame.{Frame}
use Rattle.state.specs.declared.Domain.{Domain}
use Rattle.state.specs.declared.Accounts.{Accounts}
use Rattle.state.specs.declared.State.{State}
use Rattle.clists.specs.Clist.{live}
use Rattle.judge.specs.Search.{targeted}
use Rattle.judge.specs.declared.Target.{Target}
use Rattle.judge.specs.declared.Target.TheVariants.{Address, Base}
use Rattle.calls.specs.declared.Presented.{Presented}
use Rattle.calls.specs.declared.Refusal.{Refusal}

-- a state with the words of its store
pub record World : Type 0 where
  pub state : State
  pub words : List ℕ

-- how an access is judged: by the object table, the words of the store and the caller's frame
abbrev pub Judging : Type 0
Judging = Table → List ℕ → Frame → Target → ℕ → Option ℕ

-- a check: the refusal, and what must hold
pub data Check : Type 0 where
  check : Refusal → Bool → Check

-- the first check that fails
abbrev pub first_failing : List Check → Option Refusal
first_failing [] = None
first_failing (check r holds ∷ cs) = cond holds (first_failing cs) (Some r)

-- what a call wants: rights on a target, or nothing
pub data Want : Type 0 where
  nothing : Want
  rights : Target → ℕ → Want

-- what a call charges: pages to an account (document 02, T-05)
pub record Charge : Type 0 where
  pub account : ℕ
  pub pages : ℕ

-- what a granted search gives: the granting pair's address, the object, its estate, and the word at the address
pub record Found : Type 0 where
  pub pair : ℕ
  pub object : Object
  pub estate : Estate
  pub word : ℕ

-- the page of a target, and the word there
abbrev pub page_of : Target → ℕ
page_of (Address a) = a / 64
page_of (Base b) = b

abbrev pub word_at : List ℕ → Target → ℕ
word_at words (Address a) = get_or words a 0
word_at words (Base b) = 0

abbrev pub found_by : World → Target → Option ℕ → Option Found
found_by w target (Some pair) =
    Some
    (record {
      pair = pair;
      object = targeted w.state.table target;
      estate = estate_of w.state.table (page_of target);
      word = word_at w.words target;
    })
found_by w target None = None

abbrev pub search : Judging → World → Frame → Want → Option Found
search judging w f nothing = None
search judging w f (rights target r) = found_by w target (judging w.state.table w.words f target r)

-- whether a presented capability passes rule 1
abbrev pub passes : Table → Option Presented → Bool
passes t None = true
passes t (Some l) = live t (record { page = l.page; password = l.password })

-- whether the account is in the domain's set
abbrev pub permitted : Accounts → ℕ → Option Charge → Bool
permitted x d None = true
permitted x d (Some c) = may_charge x d c.account

-- whether the account's pages, with those charged, are at most its limit; both are read only where the domain may charge the account
abbrev pub within_limit : Table → Accounts → ℕ → Option Charge → Bool
within_limit t x d None = true
within_limit t x d (Some c) = not (may_charge x d c.account) || leb (pages_of t c.account + c.pages) (limit_at x c.account)

-- all that a call of a domain reads: its domain and estate, what its search gives, whether what it presents is live, and whether what it
-- charges is permitted and within the limit
pub record View : Type 0 where
  pub domain : Domain
  pub estate : Estate
  pub found : Option Found
  pub live : Bool
  pub permits : Bool
  pub fits : Bool

-- of what a search found: whether it was granted, the object, its estate, the word and the pair
abbrev pub is_some : Option Found → Bool
is_some None = false
is_some (Some x) = true

abbrev pub object_of : Option Found → Object
object_of None = free_object
object_of (Some x) = x.object

abbrev pub estate_found : Option Found → Estate
estate_found None = no_estate
estate_found (Some x) = x.estate

abbrev pub word_of : Option Found → ℕ
word_of None = 0
word_of (Some x) = x.word

abbrev pub pair_of : Option Found → ℕ
pair_of None = 0
pair_of (Some x) = x.pair
