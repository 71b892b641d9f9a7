-- Lists of calls, each on what the last one left, computed.
use Rattle.std.specs.Prelude.{ℕ, ◌≡◌, refl, true, List, [], ◌∷◌, ◌++◌, map}
use Rattle.std.proofs.Common.{ap, sym, subst}
use Rattle.bounded.specs.Search.{first}
use Rattle.bounded.specs.Every.{below}
use Rattle.bounded.specs.Sum.{total}
use Rattle.state.specs.Extent.{covers, lies_in, apart}
use Rattle.state.specs.Lookup.{covering, based, object_covering, object_based, place_based, place_above, has_room, place_of, ordinary_mode, mode_of, has_password}
use Rattle.state.specs.Update.{insert_slot, remove_slot, lock_slot, merge_list, only_list, save_domain, restore_domain, new_object, add_password, drop_password, insert_object, remove_object}
use Rattle.state.specs.Pages.{estate_pages, pages_of, in_set}
use Rattle.soundness.specs.Sound.{sound}
use Rattle.clists.specs.Clist.{live, list_end, until_end, clist, list_at}
use Rattle.judge.specs.Search.{pair_mode, verdict_of, pair_verdict, list_first, slot_first, frame_first, frame_verdict, searched}
use Rattle.judge.specs.Judged.{judged}
use Rattle.judge.specs.Judged.Inside.{judged_is}
use Rattle.calls.specs.View.{World, Judging}
use Rattle.calls.specs.Arguments.{run_free, is_entry}
use Rattle.calls.specs.Changes.{frame_fields, registration, zeroed}
use Rattle.calls.specs.Rules.{in_range, unlocked, early, view, late, checks, touched, changes}
use Rattle.calls.specs.Step.{unchecked_by, step, unchecked, world_of, answer_of}
use Rattle.calls.specs.Boot.{home_estate, home_domain, boot_accounts, boot_state, home_pair, boot_words, homes_ok, limits_ok, sets_ok, home_pages, room_ok, plan_ok, boot}
use Rattle.calls.specs.Laws.Unchecked.{sound_unchecked}
use Rattle.calls.proofs.Sound.{unchecked_sound}
use Rattle.calls.specs.declared.Call.{Call}

-- the numbers of a boot with limits of 128, sets of 15 and account 0 throughout (document 02, T-05)
abbrev pub ample : List ℕ → List ℕ
ample homes = homes ++ (128 ∷ 128 ∷ 128 ∷ 128 ∷ 0 ∷ 15 ∷ 0 ∷ 15 ∷ 0 ∷ 15 ∷ 0 ∷ 15 ∷ [])

-- an exchange: a call by a domain, and the number and values that it must answer
pub record Exchange : Type 0 where
  pub domain : ℕ
  pub call : Call
  pub answer : List ℕ

abbrev pub by : ℕ → Call → List ℕ → Exchange
by d c answer = record { domain = d; call = c; answer = answer }

-- the answers of exchanges, each on what the last one left
unfoldable pub answers : World → List Exchange → List (List ℕ)
answers w [] = []
answers w (e ∷ es) = let r = step w e.domain e.call in answer_of r ∷ answers (world_of r) es

abbrev pub expected : List Exchange → List (List ℕ)
expected es = map (λ (e : Exchange). e.answer) es

-- the world that exchanges leave
unfoldable pub after : World → List Exchange → World
after w [] = w
after w (e ∷ es) = let r = step w e.domain e.call in after (world_of r) es

-- THE SAME WITHOUT CHECK 3, and by any judging: this is computed. Unfolding it unfolds all that it computes with
unfoldable pub answers_by : Judging → World → List Exchange → List (List ℕ)
unfolding touched first below total estate_pages pages_of in_set covers lies_in apart covering based object_covering object_based place_based place_above has_room place_of ordinary_mode mode_of has_password insert_slot remove_slot lock_slot merge_list only_list save_domain restore_domain new_object add_password drop_password insert_object remove_object live list_end until_end clist list_at pair_mode verdict_of pair_verdict list_first slot_first frame_first frame_verdict searched in_range unlocked early view run_free is_entry late checks frame_fields registration changes zeroed unchecked_by home_estate home_domain boot_accounts boot_state home_pair boot_words homes_ok limits_ok sets_ok home_pages room_ok plan_ok boot
answers_by judging w [] = []
answers_by judging w (e ∷ es) = let r = unchecked_by judging w e.domain e.call in answer_of r ∷ answers_by judging (world_of r) es

unfoldable pub after_by : Judging → World → List Exchange → World
unfolding answers_by
after_by judging w [] = w
after_by judging w (e ∷ es) = let r = unchecked_by judging w e.domain e.call in after_by judging (world_of r) es

-- a run that starts sound finds a sound state at every call, so that check 3 does not matter
pub answers_are : (w : World) → sound w.state ≡ true → (es : List Exchange) → answers w es ≡ answers_by judged w es
unfolding answers answers_by
answers_are w h [] = refl
answers_are w h (e ∷ es) =
    rw (sound_unchecked w e.domain e.call h)
    (ap (λ t. answer_of (unchecked w e.domain e.call) ∷ t) (answers_are (world_of (unchecked w e.domain e.call)) (unchecked_sound w e.domain e.call h) es))

pub after_is : (w : World) → sound w.state ≡ true → (es : List Exchange) → after w es ≡ after_by judged w es
unfolding after after_by
after_is w h [] = refl
after_is w h (e ∷ es) = rw (sound_unchecked w e.domain e.call h) (after_is (world_of (unchecked w e.domain e.call)) (unchecked_sound w e.domain e.call h) es)

-- functions that agree make the same list
pub map_same : {A B : Type 0} (f g : A → B) → ((x : A) → f x ≡ g x) → (xs : List A) → map f xs ≡ map g xs
map_same f g h [] = refl
map_same f g h (x ∷ xs) = rw (h x, map_same f g h xs)

-- an example is computed by the search, and holds of the judgement
pub by_search : (P : Judging → Type 0) → P searched → P judged
by_search P p = subst P (sym judged_is) p
