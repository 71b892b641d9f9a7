-- A domain under its whole lock, along any list of calls by any domains: document 02, T-03.
use Rattle.std.specs.Prelude.{ℕ, ◌<◌, ◌≡◌, true, List, [], ◌∷◌}
use Rattle.state.specs.Places.{domain_at}
use Rattle.state.specs.Lookup.{object_based, ordinary_mode}
use Rattle.state.specs.declared.Object.{Object}
use Rattle.state.specs.declared.Table.{Table}
use Rattle.state.specs.declared.Domain.{Domain}
use Rattle.calls.specs.Answers.{number_of}
use Rattle.calls.specs.View.{World}
use Rattle.calls.specs.Step.{world_of}
use Rattle.calls.specs.Runs.{Event, result_of, final}
use Rattle.calls.specs.declared.Call.TheVariants.{OnDomain}
use Rattle.calls.specs.declared.DomainCall.TheVariants.{PdxReturn}

-- the domain is under its whole lock
abbrev pub WholeLocked : ℕ → World → Type 0
WholeLocked d w = (domain_at w.state d).active.whole ≡ true

-- a call is a granted return of the domain: this can lift the lock
pub record GrantedReturn (d : ℕ) (w : World) (e : Event) : Type 0 where
  pub own : e.domain ≡ d
  pub return : e.call ≡ OnDomain PdxReturn
  pub granted : number_of (result_of w e).outcome.answer ≡ 0

-- the list has none
abbrev pub NoReturn : ℕ → World → List Event → Type 0
NoReturn d w [] = Unit {0}
NoReturn d w (e ∷ es) = (GrantedReturn d w e → ⊥) × NoReturn d (world_of (result_of w e)) es

-- a domain before and after: it is under its whole lock, with the slots and the saved domains that it had. Its locked count may rise
pub record Keeps (m m' : Domain) : Type 0 where
  pub whole : m'.active.whole ≡ true
  pub slots : m'.active.slots ≡ m.active.slots
  pub count : m'.active.count ≡ m.active.count
  pub saved : m'.saved ≡ m.saved
  pub depth : m'.depth ≡ m.depth

-- an object before and after: each ordinary password that it has, it had in the same mode; a registration that it has, it had
pub record Within (o o' : Object) : Type 0 where
  pub modes : (word : ℕ) → 0 < ordinary_mode o' word → ordinary_mode o' word ≡ ordinary_mode o word
  pub registration : 0 < o'.registration.password → o'.registration ≡ o.registration

-- so of each object that stands before; where it is gone afterwards, it has nothing
abbrev pub AddsNothing : Table → Table → Type 0
AddsNothing t t' = (base : ℕ) → 0 < (object_based t base).pages → Within (object_based t base) (object_based t' base)

-- so of each call of the domain along a list
abbrev pub OwnAddNothing : ℕ → World → List Event → Type 0
OwnAddNothing d w [] = Unit {0}
OwnAddNothing d w (e ∷ es) =
    (e.domain ≡ d → AddsNothing w.state.table (result_of w e).outcome.state.table) × OwnAddNothing d (world_of (result_of w e)) es

-- what the whole lock of a domain comes to along a list
pub record WholeLockHolds (d : ℕ) (w : World) (es : List Event) : Type 0 where
  pub keeps : Keeps (domain_at w.state d) (domain_at (final w es).state d)
  pub adds : OwnAddNothing d w es
