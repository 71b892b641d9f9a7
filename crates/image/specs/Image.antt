-- How an image is read and written, and the laws of both: document 02, T-02.
use Rattle.std.specs.Prelude.{ℕ, ◌≡◌, refl, Bool, true, false, cond, ◌&&◌, List, [], eqb, length}
use Rattle.std.proofs.Common.{ap, sym, ◌∙◌, append-nil, arith, take_all}
use borrow.Author.Tests.{eqb-true, eq-eqb, ne_eqb}
use Rattle.bounded.specs.Bools.{and_left, and_right}
use Rattle.codec.specs.Codec.{Bytes, same_image}
use Rattle.state.specs.Places.{empty_state}
use Rattle.soundness.specs.Sound.{sound}
use Rattle.state.specs.declared.State.{State}
use Rattle.image.specs.declared.Reading.{Reading}
use Rattle.layout.specs.Sizes.{state_size}
use Rattle.layout.specs.Layout.{state}
use Rattle.layout.specs.Whole.{state_of, truths_ok, with_state}

-- an image reads if it has the length, its bytes for yes or no are 1 or 0, and its state is sound
unfoldable pub reading : List ℕ → Reading
reading image =
    cond (eqb (length image) state_size)
    (record { readable = state.ok image && sound (state.get image); state = state.get image })
    (record { readable = false; state = empty_state })

-- an image of the length is overwritten by the state's bytes; any other stays
unfoldable pub written : List ℕ → State → List ℕ
written image s = cond (eqb (length image) state_size) (state.put s) image

written_reads : (s : State) → state.get (state.put s) ≡ s → reading (state.put s) ≡ record { readable = sound s; state = s }
unfolding reading
written_reads s g =
    let o : state.ok (state.put s) ≡ true = rw (append-nil (state.put s)) at (state.ok_put s []) in
    rw (state.put_length s, o, g)

-- WHAT IS WRITTEN FOR A SOUND STATE READS AS THAT STATE. `fits`: the numbers fit their types and the arrays are full, as in every value of the code
pub reads_back : (s : State) → state.fits s → reading (state.put s) ≡ record { readable = sound s; state = s }
reads_back s f = written_reads s (rw (append-nil (state.put s)) at (state.get_put s [] f))

taken : (b : Bool) (r : Reading) → (cond b r (record { readable = false; state = empty_state })).readable ≡ true → b ≡ true
taken true r h = refl
taken false r h = h

module _ (a : List ℕ) (ra : (reading a).readable ≡ true) where
  -- what is readable has the length and its bytes are in order
  pub readable_length : length a ≡ state_size
  unfolding reading
  readable_length = eqb-true (length a) state_size (taken (eqb (length a) state_size) _ ra)

  pub readable_is : reading a ≡ record { readable = state.ok a && sound (state.get a); state = state.get a }
  unfolding reading
  readable_is = rw (eq-eqb (length a) state_size readable_length)

  pub readable_ok : state.ok a ≡ true
  readable_ok = and_left (state.ok a) (sound (state.get a)) (rw readable_is at ra)

  -- WHAT READS IS SOUND
  pub readable_sound : sound (reading a).state ≡ true
  readable_sound = rw readable_is (and_right (state.ok a) (sound (state.get a)) (rw readable_is at ra))

-- NO TWO IMAGES READ AS THE SAME STATE
pub one_image : (a b : List ℕ) (ha : Bytes a) (hb : Bytes b) (ra : (reading a).readable ≡ true) (rb : (reading b).readable ≡ true)
    → (reading a).state ≡ (reading b).state → a ≡ b
one_image a b ha hb ra rb e =
    same_image state a b ha hb (readable_length a ra) (readable_length b rb) (readable_ok a ra) (readable_ok b rb)
    (sym (ap (λ r. r.state) (readable_is a ra)) ∙ e ∙ ap (λ r. r.state) (readable_is b rb))

-- an image that was read is written as it was
pub writes_back : (a : List ℕ) → Bytes a → (reading a).readable ≡ true → state.put (reading a).state ≡ a
writes_back a ha ra =
    let l = readable_length a ra in
    rw (readable_is a ra) (state.put_get a ha (omega arith) (readable_ok a ra) ∙ take_all state_size a (omega arith))

-- what the code of reading hands back
module _ (image : List ℕ) where
  pub reads : length image ≡ state_size → record { readable = truths_ok image && sound (state_of image); state = state_of image } ≡ reading image
  unfolding truths_ok state_of reading
  reads l = rw (eq-eqb (length image) state_size l)

  pub reads_not : (length image ≡ state_size → ⊥) → record { readable = false; state = state_of image } ≡ reading image
  unfolding state_of reading
  reads_not h = rw (ne_eqb (length image) state_size h)

-- what the code of writing leaves
pub wrote : (s : State) (old new : List ℕ) → new ≡ with_state old s → (length old ≡ state_size → state_of new ≡ s)
    → (new ≡ written old s) × (length old ≡ state_size → reading new ≡ record { readable = sound s; state = s })
unfolding with_state state_of written
wrote s old new e f = (
  e,
  λ l.
      let w : new ≡ state.put s = rw (eq-eqb (length old) state_size l) at e in
      rw w (written_reads s (rw (w, state.put_length s) at (f l))),
)
