-- What a done call answers and changes: document 01, "The calls".
use Rattle.std.specs.Prelude.{ℕ, ◌+◌, ◌/◌, Bool, true, false, cond, List, [], ◌∷◌, ◌++◌, leb, ltb, eqb, length, set, take, drop, replicate}
use Rattle.bounded.specs.Fill.{tabulate}
use Rattle.state.specs.Places.{slot_at}
use Rattle.state.specs.Lookup.{place_based}
use Rattle.state.specs.Update.{merge_list, only_list, with_active, with_object, remove_object, with_estate, with_domain}
use Rattle.state.specs.declared.Capability.{Capability}
use Rattle.state.specs.declared.Registration.{Registration}
use Rattle.state.specs.declared.Object.{Object}
use Rattle.state.specs.declared.Estate.{Estate}
use Rattle.state.specs.declared.Frame.{Frame}
use Rattle.state.specs.declared.Domain.{Domain}
use Rattle.calls.specs.Arguments.{entry_of}
use Rattle.calls.specs.View.{World, View, object_of, estate_found}
use Rattle.calls.specs.declared.Presented.{Presented}
use Rattle.calls.specs.declared.Entries.{Entries}
use Rattle.calls.specs.declared.Fields.{Fields}

abbrev pub flag : Bool → ℕ
flag true = 1
flag false = 0

-- GT: how many slots, how many of them locked, the whole lock as 1 or 0, then the page of each slot
unfoldable pub frame_fields : Frame → Fields
frame_fields f =
    record {
      count = 3 + f.count;
      values = f.count ∷ f.locked ∷ flag f.whole ∷ tabulate 8 (λ k. cond (ltb k f.count) (slot_at f k).page 0);
    }

-- a part of the world, with what it becomes
pub data Change : Type 0 where
  word : ℕ → ℕ → Change
  zeros : ℕ → ℕ → Change
  estate : ℕ → Estate → Change
  domain : ℕ → Domain → Change

abbrev pub capability : Presented → Capability
capability l = record { page = l.page; password = l.password }

-- a registration as it is asked for; past the count its entries are 0
unfoldable pub registration : ℕ → Presented → Entries → Registration
registration k l es =
    record { password = k; list = capability l; count = es.count; entries = tabulate 4 (λ i. cond (ltb i es.count) (entry_of es i) 0) }

-- the object with the base becomes another
abbrev pub becomes : ℕ → (Object → Object) → View → List Change
becomes b after v =
    estate (b / 32) (with_object (estate_found v.found) (place_based (estate_found v.found) b) (after (object_of v.found))) ∷ []

-- the object with the base goes
abbrev pub goes : ℕ → View → List Change
goes b v = estate (b / 32) (remove_object (estate_found v.found) (place_based (estate_found v.found) b)) ∷ []

-- the active frame of the caller becomes another
abbrev pub active : ℕ → View → Frame → List Change
active d v f = domain d (with_active v.domain f) ∷ []

-- the frame that a PDX call runs in: choice 0 (merge) or 1 (empty)
abbrev pub entered : ℕ → Frame → Capability → Frame
entered ch f c = cond (eqb ch 0) (merge_list f c) (only_list c)

-- n words from a on are 0
unfoldable pub zeroed : ℕ → ℕ → List ℕ → List ℕ
zeroed a n words = take a words ++ (replicate n 0 ++ drop (a + n) words)

-- the same where they lie in the store
abbrev pub zeroed_within : ℕ → ℕ → List ℕ → List ℕ
zeroed_within a n words = cond (leb (a + n) (length words)) (zeroed a n words) words

abbrev pub apply_one : Change → World → World
apply_one (word a x) w = record { state = w.state; words = set w.words a x }
apply_one (zeros a n) w = record { state = w.state; words = zeroed a n w.words }
apply_one (estate e x) w = record { state = with_estate w.state e x; words = w.words }
apply_one (domain d m) w = record { state = with_domain w.state d m; words = w.words }

abbrev pub apply_all : List Change → World → World
apply_all [] w = w
apply_all (c ∷ cs) w = apply_all cs (apply_one c w)
