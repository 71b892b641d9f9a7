-- Tests of the arguments of CR, RG and CA.
use Rattle.std.specs.Prelude.{ℕ, Bool, not, ◌||◌, [], ◌∷◌, leb, eqb, get_or}
use Rattle.bounded.specs.Every.{below}
use Rattle.state.specs.Places.{object_at, entry_at}
use Rattle.state.specs.Extent.{apart}
use Rattle.state.specs.declared.Object.{Object}
use Rattle.state.specs.declared.Estate.{Estate}
use Rattle.calls.specs.declared.Entries.{Entries}

-- entry k that RG asks for
abbrev pub entry_of : Entries → ℕ → ℕ
entry_of es k = get_or (es.first ∷ es.second ∷ es.third ∷ es.fourth ∷ []) k 0

-- each entry below the count passes a test; the others are no arguments
abbrev pub entries_all : (ℕ → Bool) → Entries → Bool
entries_all test es = below 4 (λ k. leb es.count k || test (entry_of es k))

-- an object is apart from all of an estate
unfoldable pub run_free : Estate → Object → Bool
run_free e o = below 8 (λ k. apart (object_at e k) o)

-- the address is one of the registration's entries
unfoldable pub is_entry : Object → ℕ → Bool
is_entry o a = not (below 4 (λ k. leb o.registration.count k || not (eqb (entry_at o k) a)))
