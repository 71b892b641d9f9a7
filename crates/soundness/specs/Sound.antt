-- Soundness: document 01, "Ground and bounds", items 1 to 5, the bounds of accounts (document 02, T-05), and the one order of objects and
-- passwords (T-06). Every unused place holds zeros (T-02; Laws/Unused.antt says so place by place), so that one state is one value
-- (Laws/OneTable.antt). The lengths of the arrays are part of the definition, and hold of every value that code can hand over.
use Rattle.std.specs.Prelude.{ℕ, ◌+◌, ◌/◌, Bool, true, false, not, cond, ◌&&◌, ◌||◌, List, [], ◌∷◌, leb, ltb, eqb, length}
use Rattle.bounded.specs.Every.{below}
use Rattle.bounded.specs.Fill.{tabulate}
use Rattle.rights.specs.Modes.{legal}
use Rattle.state.specs.Places.{slot_at, saved_at, password_at, entry_at, object_at, estate_at, domain_at, limit_at, set_at}
use Rattle.state.specs.Extent.{free, covers, lies_in}
use Rattle.state.specs.declared.Capability.{Capability}
use Rattle.state.specs.declared.Object.{Object}
use Rattle.state.specs.declared.Estate.{Estate}
use Rattle.state.specs.declared.Frame.{Frame}
use Rattle.state.specs.declared.Domain.{Domain}
use Rattle.state.specs.declared.Accounts.{Accounts}
use Rattle.state.specs.declared.State.{State}

-- item 4: a place with the word 0 is free, and its mode is 0; an ordinary password has a legal mode
unfoldable pub password_ok : Object → ℕ → Bool
password_ok o k = cond (eqb (password_at o k).word 0) (eqb (password_at o k).mode 0) (legal (password_at o k).mode)

-- the number is not in the list; no nonzero number stands twice in it
unfoldable pub absent : ℕ → List ℕ → Bool
absent w [] = true
absent w (x ∷ xs) = not (eqb x w) && absent w xs

unfoldable pub distinct : List ℕ → Bool
distinct [] = true
distinct (x ∷ xs) = (eqb x 0 || absent x xs) && distinct xs

-- all the passwords of an object, the registration's first; 0 for a free place
abbrev pub all_passwords : Object → List ℕ
all_passwords o = o.registration.password ∷ tabulate 4 (λ k. (password_at o k).word)

-- a capability of two zeros
unfoldable pub blank : Capability → Bool
blank c = eqb c.page 0 && eqb c.password 0

-- item 4: an entry past the count is 0; one in use is an address of the object
unfoldable pub entry_ok : Object → ℕ → Bool
entry_ok o k = cond (leb o.registration.count k) (eqb (entry_at o k) 0) (covers o (entry_at o k / 64))

-- item 4: where there is none, its password is 0, and so are its Clist's page and password and its count, and thereby its
-- entries; a registration has a Clist's page below 128 and 1 to 4 entries, all in the object
unfoldable pub registration_ok : Object → Bool
registration_ok o =
    below 4 (entry_ok o)
    && cond (eqb o.registration.password 0) (blank o.registration.list && eqb o.registration.count 0)
    (ltb o.registration.list.page 128 && ltb 0 o.registration.count && leb o.registration.count 4)

-- no ordinary password and no registration
unfoldable pub without_passwords : Object → Bool
without_passwords o = eqb o.registration.password 0 && below 4 (λ k. eqb (password_at o k).word 0)

-- T-06: behind a free place for a password the next is free too
unfoldable pub password_next : Object → ℕ → Bool
password_next o k = not (eqb (password_at o k).word 0) || eqb (password_at o (k + 1)).word 0

-- item 4: each place for a password is sound, no password stands behind a free place, and all, the registration's too, are different
unfoldable pub passwords_ok : Object → Bool
passwords_ok o = below 4 (password_ok o) && (below 3 (password_next o) && distinct (all_passwords o))

-- items 2 to 4: a free object has the base 0 and no passwords and the account 0, and thereby is all zero; a standing one lies in its
-- estate and is on one of the four accounts
unfoldable pub object_bounds : Object → ℕ → Bool
object_bounds o d =
    passwords_ok o && registration_ok o
    && cond (free o) (eqb o.base 0 && without_passwords o && eqb o.account 0) (lies_in o d && ltb o.account 4)

-- a place for an object
unfoldable pub object_ok : Object → ℕ → Bool
object_ok o d = eqb (length o.passwords) 4 && eqb (length o.registration.entries) 4 && object_bounds o d

-- item 3 and T-06: of two places side by side the second is free, or the first has an object that ends before the second's base. So
-- the objects stand in the first places by rising base, and no two have a page in common (Laws/Order.antt).
unfoldable pub follows : Object → Object → Bool
follows a b = free b || (not (free a) && leb (a.base + a.pages) b.base)

unfoldable pub ordered_at : Estate → ℕ → Bool
ordered_at e k = follows (object_at e k) (object_at e (k + 1))

-- item 2: an estate is eight places for objects
unfoldable pub estate_ok : Estate → ℕ → Bool
estate_ok e d = eqb (length e.objects) 8 && below 8 (λ k. object_ok (object_at e k) d) && below 7 (ordered_at e)

-- item 5: a slot past the count is zero; one in use names a page below 128
unfoldable pub slot_ok : Frame → ℕ → Bool
slot_ok f k = cond (leb f.count k) (blank (slot_at f k)) (ltb (slot_at f k).page 128)

-- item 5: at most 8 slots, and no more locked than there are
unfoldable pub frame_bounds : Frame → Bool
frame_bounds f = leb f.count 8 && leb f.locked f.count && below 8 (slot_ok f)

-- a frame; an unused one has no slots and is not locked as a whole, and thereby is all zero
unfoldable pub frame_ok : Bool → Frame → Bool
frame_ok unused f = eqb (length f.slots) 8 && frame_bounds f && cond unused (eqb f.count 0 && not f.whole) true

-- item 5: a saved domain past the depth is unused; one in use keeps the bounds of a frame
unfoldable pub saved_ok : Domain → ℕ → Bool
saved_ok m k = frame_ok (leb m.depth k) (saved_at m k)

-- item 5: the active frame, and at most 4 saved ones
unfoldable pub domain_ok : Domain → Bool
domain_ok m = eqb (length m.saved) 4 && frame_ok false m.active && leb m.depth 4 && below 4 (saved_ok m)

-- a domain with its estate
unfoldable pub sound_at : State → ℕ → Bool
sound_at s d = estate_ok (estate_at s.table d) d && domain_ok (domain_at s d)

-- T-05: a limit is at most 128 and a set at most 15; before a boot all are 0. The pages on an account are not held to its limit here
unfoldable pub accounts_ok : Accounts → Bool
accounts_ok x =
    eqb (length x.limits) 4 && eqb (length x.sets) 4 && (below 4 (λ a. leb (limit_at x a) 128) && below 4 (λ d. leb (set_at x d) 15))

-- item 1: there are four domains
unfoldable pub sound : State → Bool
sound s = eqb (length s.table.estates) 4 && eqb (length s.domains) 4 && below 4 (sound_at s) && accounts_ok s.accounts
