-- How the figure of an account moves with the objects of an estate.
use Rattle.std.specs.Prelude.{ℕ, ◌+◌, ◌<◌, ◌≡◌, refl, true, eqb, length}
use Rattle.std.proofs.Common.{ap, ◌∙◌, arith, eqb-true}
use Rattle.bounded.specs.Bools.{cond_same}
use Rattle.bounded.specs.Fill.{tabulate_at}
use Rattle.bounded.specs.Sum.{total_same, total_set}
use Rattle.bounded.specs.Shift.{in_total, out_total}
use Rattle.state.specs.Places.{no_object, no_estate, free_object, object_at, estate_at}
use Rattle.state.specs.Lookup.{place_above, has_room}
use Rattle.state.specs.Update.{with_object, object_in, insert_object, object_out, remove_object, with_estate}
use Rattle.state.specs.Laws.Lookup.{room_place}
use Rattle.state.specs.Pages.{pages_on, estate_pages, pages_of}
use Rattle.state.specs.declared.Object.{Object}
use Rattle.state.specs.declared.Estate.{Estate}
use Rattle.state.specs.declared.State.{State}

-- a free place has no pages on any account
pub none_on : (a : ℕ) (o : Object) → o.pages ≡ 0 → pages_on a o ≡ 0
none_on a o z = rw z (cond_same (eqb o.account a) 0)

-- AN OBJECT PUT AT A PLACE moves the estate's pages by its own, and by those of the object that stood there
pub put_pages : (a : ℕ) (e : Estate) (k : ℕ) (o : Object) → k < 8 → length e.objects ≡ 8
    → estate_pages a (with_object e k o) + pages_on a (object_at e k) ≡ estate_pages a e + pages_on a o
unfolding estate_pages
put_pages a e k o l n = total_set 8 (pages_on a) e.objects k o no_object l n

-- AN OBJECT PUT IN moves them by its own, where there is room
pub insert_pages : (a : ℕ) (e : Estate) (o : Object) → has_room e ≡ true → estate_pages a (insert_object e o) ≡ estate_pages a e + pages_on a o
unfolding estate_pages insert_object has_room
insert_pages a e o r =
    let s = in_total (object_at e) (place_above e o.base) o (pages_on a) 7 (room_place e o.base r) in
    let z = none_on a (object_at e 7) (eqb-true _ 0 r) in
    total_same 8 _ _ (λ k m. ap (pages_on a) (tabulate_at 8 (object_in e (place_above e o.base) o) k no_object m)) ∙ omega (arith, s, z)

-- AN OBJECT TAKEN OUT moves them by its own
pub remove_pages : (a : ℕ) (e : Estate) (k : ℕ) → k < 8 → estate_pages a (remove_object e k) + pages_on a (object_at e k) ≡ estate_pages a e
unfolding estate_pages remove_object
remove_pages a e k l =
    let s = out_total (object_at e) 7 free_object k (pages_on a) (omega arith) in
    let t = total_same 8 _ _ (λ j m. ap (pages_on a) (tabulate_at 8 (object_out e k) j no_object m)) in
    omega (arith, s, t, none_on a free_object refl)

-- and another estate moves the figure
pub estate_figure : (a : ℕ) (s : State) (d : ℕ) (e : Estate) → d < 4 → length s.table.estates ≡ 4
    → pages_of (with_estate s d e).table a + estate_pages a (estate_at s.table d) ≡ pages_of s.table a + estate_pages a e
unfolding pages_of
estate_figure a s d e l n = total_set 4 (estate_pages a) s.table.estates d e no_estate l n
