-- How an access is judged: document 01, "How an access is judged", rules 2 to 4, and document 02, T-07.
use Rattle.std.specs.Prelude.{ℕ, Result, ◌+◌, ◌*◌, ◌/◌, Bool, true, false, cond, ◌||◌, List, eqb, length, get_or, Option, Some, None, Ok, Err}
use Rattle.bounded.specs.Search.{first}
use Rattle.rights.specs.Modes.{grants, denies}
use Rattle.state.specs.Places.{slot_at}
use Rattle.state.specs.Extent.{free}
use Rattle.state.specs.Lookup.{object_covering, object_based, mode_of}
use Rattle.state.specs.declared.Object.{Object}
use Rattle.state.specs.declared.Table.{Table}
use Rattle.state.specs.declared.Frame.{Frame}
use Rattle.clists.specs.Clist.{list_at}
use Rattle.judge.specs.declared.Denied.{Denied}
use Rattle.judge.specs.declared.Target.{Target}
use Rattle.judge.specs.declared.Target.TheVariants.{Address, Base}

-- the mode that a pair of words has for the object: that of its password where its page is the base, else 0; the hint, the last
-- byte of the first word, is not looked at
unfoldable pub pair_mode : Object → ℕ → ℕ → ℕ
pair_mode o word password = cond (eqb (word / 256) o.base) (mode_of o password) 0

-- what a pair, a Clist or a frame says of the wanted rights: granted by the pair at an address, nothing, or denied
abbrev pub Verdict : Type 0
Verdict = Result (Option ℕ) Denied

-- there is one denial
abbrev pub the_denial : Denied
the_denial = record {}

-- rule 3: the pair at an address grants the wanted rights or denies them, as its mode does, or is passed over
unfoldable pub verdict_of : ℕ → ℕ → ℕ → Verdict
verdict_of mode wanted at = cond (grants mode wanted) (Ok (Some at)) (cond (denies mode wanted) (Err the_denial) (Ok None))

-- what pair i of a Clist says; `start` is the address of the Clist's first word
unfoldable pub pair_verdict : List ℕ → ℕ → Object → ℕ → ℕ → Verdict
pair_verdict list start o wanted i = verdict_of (pair_mode o (get_or list (2 * i) 0) (get_or list (2 * i + 1) 0)) wanted (start + 2 * i)

abbrev pub granting : Verdict → Bool
granting (Ok (Some at)) = true
granting (Ok None) = false
granting (Err d) = false

abbrev pub denying : Verdict → Bool
denying (Ok found) = false
denying (Err d) = true

-- rule 2: within a Clist, by place, what the first pair says whose verdict passes a test; nothing where there is none
unfoldable pub list_first : (Verdict → Bool) → List ℕ → ℕ → Object → ℕ → Verdict
list_first test list start o wanted =
    first (λ i. test (pair_verdict list start o wanted i)) (pair_verdict list start o wanted) (Ok None) 0 (length list / 2)

-- the same of slot k; its Clist starts at the page that the slot names
unfoldable pub slot_first : (Verdict → Bool) → Table → List ℕ → Frame → Object → ℕ → ℕ → Verdict
slot_first test t words f o wanted k = list_first test (list_at t words f k) (64 * (slot_at f k).page) o wanted

-- rule 2: the same of all slots, by slot and then by place
unfoldable pub frame_first : (Verdict → Bool) → Table → List ℕ → Frame → Object → ℕ → Verdict
frame_first test t words f o wanted = first (λ k. test (slot_first test t words f o wanted k)) (slot_first test t words f o wanted) (Ok None) 0 8

-- document 02, T-07, in place of rule 4's first sentence: denied where a pair in any place denies (the paper's ban), else granted by the
-- first granting pair
unfoldable pub frame_verdict : Table → List ℕ → Frame → Object → ℕ → Verdict
frame_verdict t words f o wanted =
    cond (denying (frame_first denying t words f o wanted)) (Err the_denial) (frame_first granting t words f o wanted)

-- rule 4: a denial, and no granting pair, are refused alike
abbrev pub judgement_of : Verdict → Option ℕ
judgement_of (Ok found) = found
judgement_of (Err d) = None

-- the object asked for, a free one where there is none
abbrev pub targeted : Table → Target → Object
targeted t (Address a) = object_covering t (a / 64)
targeted t (Base b) = object_based t b

-- rules 3 and 4: refused too where no object is asked for, or no right is wanted
unfoldable pub searched : Table → List ℕ → Frame → Target → ℕ → Option ℕ
searched t words f target wanted =
    cond (free (targeted t target) || eqb wanted 0) None (judgement_of (frame_verdict t words f (targeted t target) wanted))
