-- The words in which the laws of the judgement are said: the pairs of the Clists that a frame's slots name, and their order.
use Rattle.std.specs.Prelude.{ℕ, ◌+◌, ◌*◌, ◌/◌, ◌<◌, ◌≡◌, true, false, List, ◌⊎◌, length, get_or}
use Rattle.rights.specs.Modes.{grants, denies}
use Rattle.state.specs.Places.{slot_at}
use Rattle.state.specs.Lookup.{has_password}
use Rattle.state.specs.declared.Object.{Object}
use Rattle.state.specs.declared.Table.{Table}
use Rattle.state.specs.declared.Frame.{Frame}
use Rattle.clists.specs.Clist.{list_at}
use Rattle.judge.specs.Search.{pair_mode}

-- how many pairs the Clist at a slot has; none where the slot is not in use or not live
abbrev pub pairs_at : Table → List ℕ → Frame → ℕ → ℕ
pairs_at t words f slot = length (list_at t words f slot) / 2

-- the first word of the pair at a place of that Clist
abbrev pub first_word : Table → List ℕ → Frame → ℕ → ℕ → ℕ
first_word t words f slot place = get_or (list_at t words f slot) (2 * place) 0

-- its second word, the password
abbrev pub second_word : Table → List ℕ → Frame → ℕ → ℕ → ℕ
second_word t words f slot place = get_or (list_at t words f slot) (2 * place + 1) 0

-- the address of its first word
abbrev pub address_at : Frame → ℕ → ℕ → ℕ
address_at f slot place = 64 * (slot_at f slot).page + 2 * place

-- the mode that the pair has for the object, 0 where it is not true for it
abbrev pub mode_at : Table → List ℕ → Frame → Object → ℕ → ℕ → ℕ
mode_at t words f o slot place = pair_mode o (first_word t words f slot place) (second_word t words f slot place)

-- rule 2, by slot and then by place: pair j of slot i comes before the pair at `slot` and `place`
abbrev pub Before : ℕ → ℕ → ℕ → ℕ → Type 0
Before i j slot place = (i < slot) ⊎ ((i ≡ slot) × (j < place))

-- it comes before that pair, or is that pair
abbrev pub NotAfter : ℕ → ℕ → ℕ → ℕ → Type 0
NotAfter i j slot place = Before i j slot place ⊎ ((i ≡ slot) × (j ≡ place))

-- the mode of each pair before that at `slot` and `place` has a property
abbrev pub EachBefore : Table → List ℕ → Frame → Object → (ℕ → Type 0) → ℕ → ℕ → Type 0
EachBefore t words f o P slot place = (i j : ℕ) → Before i j slot place → j < pairs_at t words f i → P (mode_at t words f o i j)

-- the mode of each pair has a property
abbrev pub EachPair : Table → List ℕ → Frame → Object → (ℕ → Type 0) → Type 0
EachPair t words f o P = (i j : ℕ) → i < 8 → j < pairs_at t words f i → P (mode_at t words f o i j)

-- rule 3, a pair passed over: its mode neither grants nor denies the wanted rights
pub record PassedOver (wanted mode : ℕ) : Type 0 where
  pub no_grant : grants mode wanted ≡ false
  pub no_denial : denies mode wanted ≡ false

-- a pair of words is true for the object: it names the base, and shows a password that the object or its registration has
pub record TrueFor (o : Object) (word password : ℕ) : Type 0 where
  pub page : word / 256 ≡ o.base
  pub has : has_password o password ≡ true
