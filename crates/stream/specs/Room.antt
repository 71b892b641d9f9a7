-- The room in the buffers: why the program stops in a piece, and that it gets on.
use Rattle.std.specs.Prelude.{ℕ, zero, suc, ◌+◌, ◌-◌, ◌≤◌, ◌<◌, min, ◌≡◌, refl, Bool, true, false, not, ◌&&◌, leb, ltb, eqb, length, take}
use Rattle.std.proofs.Common.{◌∙◌, sym, ap, true≢false, arith, length-take, take_all, le-leb, leb-true, leb-false, ltb-true, ltb-false, eq-eqb, ne_eqb}
use mathlib.Core.List.{List, [], foldl}
use Rattle.std.proofs.lemmas.Bool.{lt-leb}
use Rattle.bounded.specs.Bools.{and_left, and_right, or_left, or_unless}
use Rattle.state.specs.declared.State.{State}
use Rattle.calls.specs.Step.{unchecked}
use Rattle.stream.specs.Run.{Progress}
use Rattle.stream.specs.Feed.{progress_at, progress_of, held_bytes, room_for, stopped, on_held}
use Rattle.stream.specs.declared.Feed.{Feed}

pub room_short : (length at : ℕ) → length < 273 → false ≡ room_for length at
room_short length at h =
    let l : length < at + 273 = omega arith in
    rw (lt-leb (at + 273) length l)

pub room_long : (length at : ℕ) → 273 ≤ length → leb at (length - 273) ≡ room_for length at
room_long length at h = go (leb (at + 273) length) refl
  where
    go : (b : Bool) → leb (at + 273) length ≡ b → leb at (length - 273) ≡ b
    go true e =
        let l : at + 273 ≤ length = leb-true _ _ e in
        let k : at ≤ length - 273 = omega arith in
        le-leb at (length - 273) k
    go false e =
        let l : length < at + 273 = leb-false _ _ e in
        let k : length - 273 < at = omega arith in
        lt-leb at (length - 273) k

-- past the end of a list nothing more is taken
pub take_clip : (s : List ℕ) (n : ℕ) → take (min n (length s)) s ≡ take n s
take_clip s n = go (leb n (length s)) refl
  where
    go : (b : Bool) → leb n (length s) ≡ b → take (min n (length s)) s ≡ take n s
    go true e =
        let l : n ≤ length s = leb-true _ _ e in
        let m : min n (length s) ≡ n = omega arith in
        rw m
    go false e =
        let l : length s < n = leb-false _ _ e in
        let m : min n (length s) ≡ length s = omega arith in
        rw m (take_all (length s) s (omega arith) ∙ sym (take_all n s (omega arith)))

-- what is held and what is written, clipped to their room, is what they were
pub clip_progress : (s : State) (words : List ℕ) (number : ℕ) (line : List ℕ) (held : ℕ) (out : List ℕ) (at : ℕ) {held' at' : ℕ} → length line ≡ held_bytes → held' ≡ min held held_bytes → at' ≡ min at (length out)
    → progress_at s words number line held' out at' ≡ progress_at s words number line held out at
clip_progress s words number line held out at {held'} {at'} l h a =
    let e : take held' line ≡ take held line = rw (h, ← l) (take_clip line held) in
    let g : take at' out ≡ take at out = rw a (take_clip out at) in
    rw (e, g)

-- why the program stops
pub stopped_at : (piece out taken at : ℕ) (room : Bool) → taken ≤ piece → room ≡ room_for out at → (ltb taken piece && room) ≡ false → stopped piece out taken at ≡ true
stopped_at piece out taken at room h e f = go (ltb taken piece) refl f
  where
    go : (b : Bool) → ltb taken piece ≡ b → (b && room) ≡ false → stopped piece out taken at ≡ true
    go true l r = or_unless (eqb taken piece) (not (room_for out at)) (λ z. rw (← e, r))
    go false l r =
        let k : piece ≤ taken = ltb-false _ _ l in
        let n : taken ≡ piece = omega arith in
        or_left (eqb taken piece) (not (room_for out at)) (eq-eqb _ _ n)

pub shorter : {end n : ℕ} → (end ≡ n → ⊥) → end ≤ n → end < n
shorter e h = omega (arith, e)

-- what the loop's test tells
pub still_more : (from piece : ℕ) (room : Bool) → (ltb from piece && room) ≡ true → from < piece
still_more from piece room h = ltb-true from piece (and_left (ltb from piece) room h)

pub still_room : (from piece out at : ℕ) (room : Bool) → (ltb from piece && room) ≡ true → room ≡ room_for out at → at + 273 ≤ out
still_room from piece out at room h e = leb-true (at + 273) out (sym e ∙ and_right (ltb from piece) room h)

-- with an empty buffer of room enough, some of a piece is taken
pub feed_moves : (before : Progress) (piece : List ℕ) (size : ℕ) (r : Feed) (words out : List ℕ) → before.text ≡ [] → 273 ≤ size → 0 < length piece
    → progress_of r words out ≡ foldl (on_held unchecked) before (take r.taken piece) → length out ≡ size → r.at ≤ size
    → stopped (length piece) size r.taken r.at ≡ true → 0 < r.taken
feed_moves before piece size r words out z h l e k b s = go r.taken refl
  where
    go : (n : ℕ) → r.taken ≡ n → 0 < r.taken
    go zero t =
        let x : take r.at out ≡ before.text = rw t at (ap (λ (y : Progress). y.text) e) in
        let y : length (take r.at out) ≡ 0 = ap length (x ∙ z) in
        let m : r.at ≡ 0 = omega (arith, y, length-take r.at out) in
        let g : room_for size r.at ≡ true = rw m (le-leb 273 size h) in
        let n : eqb r.taken (length piece) ≡ false = rw t (ne_eqb 0 (length piece) (λ w. omega (arith, w))) in
        absurd (true≢false (sym s ∙ rw (n, g)))
    go (suc n) t = omega (arith, t)
