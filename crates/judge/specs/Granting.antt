-- When an access is granted, told by the pairs of the Clists: document 01, "How an access is judged", rules 2 to 4, and document 02, T-07.
use Rattle.std.specs.Prelude.{ℕ, ◌<◌, ◌≡◌, true, false, List, eqb}
use Rattle.rights.specs.Modes.{grants, denies}
use Rattle.state.specs.Places.{slot_at}
use Rattle.state.specs.Extent.{free}
use Rattle.state.specs.declared.Object.{Object}
use Rattle.state.specs.declared.Table.{Table}
use Rattle.state.specs.declared.Frame.{Frame}
use Rattle.clists.specs.Clist.{live}
use Rattle.judge.specs.Search.{targeted}
use Rattle.judge.specs.Pairs.{pairs_at, mode_at, address_at, EachBefore, EachPair}
use Rattle.judge.specs.declared.Target.{Target}

-- The address is that of a pair in the Clist of a live slot.
pub record PairAt (t : Table) (words : List ℕ) (f : Frame) (a : ℕ) : Type 0 where
  pub slot : ℕ
  pub place : ℕ
  pub in_frame : slot < 8
  pub in_use : slot < f.count
  pub alive : live t (slot_at f slot) ≡ true
  pub in_list : place < pairs_at t words f slot
  pub address : a ≡ address_at f slot place

-- The pair at `a` grants the wanted rights on the object, and the mode of each pair before it has a property.
pub record GrantsAt (t : Table) (words : List ℕ) (f : Frame) (o : Object) (wanted : ℕ) (Earlier : ℕ → Type 0) (a : ℕ) : Type 0 where
  pub in_clist : PairAt t words f a
  pub granting : grants (mode_at t words f o in_clist.slot in_clist.place) wanted ≡ true
  pub before : EachBefore t words f o Earlier in_clist.slot in_clist.place

-- It is the first pair that grants them.
abbrev pub GrantsFirst : Table → List ℕ → Frame → Object → ℕ → ℕ → Type 0
GrantsFirst t words f o wanted = GrantsAt t words f o wanted (λ mode. grants mode wanted ≡ false)

-- The pair at `a` denies the wanted rights on the object.
pub record DeniesAt (t : Table) (words : List ℕ) (f : Frame) (o : Object) (wanted a : ℕ) : Type 0 where
  pub in_clist : PairAt t words f a
  pub denying : denies (mode_at t words f o in_clist.slot in_clist.place) wanted ≡ true

-- No pair of a live slot's Clist denies them, in whatever place.
abbrev pub Undenied : Table → List ℕ → Frame → Object → ℕ → Type 0
Undenied t words f o wanted = EachPair t words f o (λ mode. denies mode wanted ≡ false)

-- The object asked for stands, some right is wanted, some pair grants, and no pair anywhere denies.
pub record Grantable (t : Table) (words : List ℕ) (f : Frame) (target : Target) (wanted : ℕ) : Type 0 where
  pub stands : free (targeted t target) ≡ false
  pub some_right : eqb wanted 0 ≡ false
  pub address : ℕ
  pub in_clist : PairAt t words f address
  pub granting : grants (mode_at t words f (targeted t target) in_clist.slot in_clist.place) wanted ≡ true
  pub undenied : Undenied t words f (targeted t target) wanted

-- The same, and the pair at `a` is the first that grants.
pub record Allowed (t : Table) (words : List ℕ) (f : Frame) (target : Target) (wanted a : ℕ) : Type 0 where
  pub stands : free (targeted t target) ≡ false
  pub some_right : eqb wanted 0 ≡ false
  pub pair : GrantsFirst t words f (targeted t target) wanted a
  pub undenied : Undenied t words f (targeted t target) wanted
