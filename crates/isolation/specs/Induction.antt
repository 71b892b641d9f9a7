-- The induction over a run, for any machine: where a member's call does to a part of the world what it does there alone, and an outsider's
-- call leaves the part as it is, a run gives the members what their calls alone give on the part.
use Rattle.std.specs.Prelude.{◌≡◌, Bool, cond}
use Rattle.std.proofs.Math.Path.{refl}
use Rattle.std.proofs.Math.Bool.{true, false}
use mathlib.Core.List.{List, [], ◌∷◌, map}

-- a machine: what a call answers in a world, and the world that it leaves
pub record Machine (World Event Answer : Type 0) : Type 0 where
  pub answer : World → Event → Answer
  pub after : World → Event → World

module _ {World Event Answer : Type 0} (m : Machine World Event Answer) where
  -- the world that a list of calls leaves
  unfoldable pub last_of : World → List Event → World
  last_of w [] = w
  last_of w (e ∷ es) = last_of (m.after w e) es

  -- the answers to those calls of the list that a test picks
  unfoldable pub answers_of : (Event → Bool) → World → List Event → List Answer
  answers_of picks w [] = []
  answers_of picks w (e ∷ es) = cond (picks e) (m.answer w e ∷ answers_of picks (m.after w e) es) (answers_of picks (m.after w e) es)

  -- what is asked of each call in the world that it finds
  abbrev pub Throughout : (World → Event → Type 0) → World → List Event → Type 0
  Throughout Asked w [] = Unit {0}
  Throughout Asked w (e ∷ es) = Asked w e × Throughout Asked (m.after w e) es

-- the calls of a list that a test picks
unfoldable pub picked : {Event : Type 0} → (Event → Bool) → List Event → List Event
picked picks [] = []
picked picks (e ∷ es) = cond (picks e) (e ∷ picked picks es) (picked picks es)

-- every call
abbrev pub every : {Event : Type 0} → Event → Bool
every e = true

-- a call in the world does what it does, known by its arguments, on the part alone
pub record SameAlone {World Part Event Answer : Type 0} (whole : Machine World Event Answer) (alone : Machine Part Event Answer) (part : World → Part)
    (arguments : Event → Event) (w : World) (e : Event) : Type 0 where
  pub answer : whole.answer w e ≡ alone.answer (part w) (arguments e)
  pub after : part (whole.after w e) ≡ alone.after (part w) (arguments e)

-- THE LAWS ASKED FOR, of a machine on whole worlds and one on parts, with what holds in every world of a run (`Good`) and what is asked of its calls
pub record Parted {World Part Event Answer : Type 0} (whole : Machine World Event Answer) (alone : Machine Part Event Answer) (part : World → Part)
    (arguments : Event → Event) (member : Event → Bool) (Good : World → Type 0) (Asked : World → Event → Type 0) : Type 0 where
  pub stays_good : (w : World) (e : Event) → Good w → Asked w e → Good (whole.after w e)
  pub by_member : (w : World) (e : Event) → Good w → Asked w e → member e ≡ true → SameAlone whole alone part arguments w e
  pub by_outsider : (w : World) (e : Event) → Good w → Asked w e → member e ≡ false → part (whole.after w e) ≡ part w

-- the members' calls of a list, by their arguments
abbrev pub calls_of : {Event : Type 0} → (Event → Event) → (Event → Bool) → List Event → List Event
calls_of arguments member es = map arguments (picked member es)

-- the members' answers and the last part are those of their calls alone
pub record Alone {World Part Event Answer : Type 0} (whole : Machine World Event Answer) (alone : Machine Part Event Answer) (part : World → Part)
    (arguments : Event → Event) (member : Event → Bool) (w : World) (es : List Event) : Type 0 where
  pub told : answers_of whole member w es ≡ answers_of alone every (part w) (calls_of arguments member es)
  pub ends : part (last_of whole w es) ≡ last_of alone (part w) (calls_of arguments member es)

-- two runs give the members the same answers, and end with the same part
pub record Alike {World Part Event Answer : Type 0} (whole : Machine World Event Answer) (part : World → Part) (member : Event → Bool)
    (w w' : World) (es es' : List Event) : Type 0 where
  pub told : answers_of whole member w es ≡ answers_of whole member w' es'
  pub ends : part (last_of whole w es) ≡ part (last_of whole w' es')

module _ {World Part Event Answer : Type 0} {whole : Machine World Event Answer} {alone : Machine Part Event Answer} {part : World → Part}
    {arguments : Event → Event} {member : Event → Bool} {Good : World → Type 0} {Asked : World → Event → Type 0}
    (laws : Parted whole alone part arguments member Good Asked) where
  -- A RUN IS, FOR THE MEMBERS, THEIR CALLS ALONE ON THE PART.
  pub run_alone : (es : List Event) (w : World) → Good w → Throughout whole Asked w es → Alone whole alone part arguments member w es
  unfolding answers_of last_of picked
  run_alone [] w g a = record { told = refl; ends = refl }
  run_alone (e ∷ es) w g a = go (member e) refl (run_alone es (whole.after w e) (laws.stays_good w e g a.0) a.1)
    where
      go : (b : Bool) → member e ≡ b → Alone whole alone part arguments member (whole.after w e) es → Alone whole alone part arguments member w (e ∷ es)
      go true m ih =
          let s = laws.by_member w e g a.0 m in
          record { told = rw (m, s.answer, ih.told, s.after); ends = rw (m, ih.ends, s.after) }
      go false m ih =
          let s = laws.by_outsider w e g a.0 m in
          record { told = rw (m, ih.told, s); ends = rw (m, ih.ends, s) }

  -- TWO RUNS from worlds with the same part, with the same members' calls, GIVE THE MEMBERS THE SAME ANSWERS AND END WITH THE SAME PART.
  pub runs_alike : (w w' : World) (es es' : List Event) → Good w → Good w' → part w ≡ part w'
      → calls_of arguments member es ≡ calls_of arguments member es' → Throughout whole Asked w es → Throughout whole Asked w' es'
      → Alike whole part member w w' es es'
  runs_alike w w' es es' g g' p c a a' =
      let r = run_alone es w g a in
      let r' = run_alone es' w' g' a' in
      record { told = rw (r.told, r'.told, p, c); ends = rw (r.ends, r'.ends, p, c) }
