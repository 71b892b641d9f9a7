-- What is read off a slice of bytes, and what a slice holds after a write, whatever its length: document 02, T-02.
use Rattle.std.specs.Prelude.{ℕ, ◌+◌, ◌-◌, ◌*◌, Bool, cond, ◌&&◌, List, eqb, leb, length, get_or}
use Rattle.codec.specs.Number.{number}
use Rattle.codec.specs.Array.{runs, array}
use Rattle.codec.specs.Laid.{lay}
use Rattle.state.specs.Places.{empty_state}
use Rattle.state.specs.declared.State.{State}
use Rattle.layout.specs.Sizes.{state_size}
use Rattle.layout.specs.Layout.{state}

-- the state that a slice of the length holds; in any other stands the empty state
unfoldable pub state_of : List ℕ → State
state_of bs = cond (eqb (length bs) state_size) (state.get bs) empty_state

-- a slice of the length in which every yes or no is 1 or 0
unfoldable pub truths_ok : List ℕ → Bool
truths_ok bs = eqb (length bs) state_size && state.ok bs

-- a slice of the length is overwritten by the state's bytes; any other stays
unfoldable pub with_state : List ℕ → State → List ℕ
with_state bs s = cond (eqb (length bs) state_size) (state.put s) bs

-- as many words as `ws` has, off the first bytes; where these are too few, `ws` stays
unfoldable pub words_read : List ℕ → List ℕ → List ℕ
words_read ws bs = cond (leb (8 * length ws) (length bs)) ((array (length ws) (number 8) 0).get bs) ws

-- the words from place `from` up to `to` lie over the bytes at their places; where bytes or words end before `to`, the bytes stay
unfoldable pub words_put : List ℕ → List ℕ → ℕ → ℕ → List ℕ
words_put bs ws from to =
    cond (leb (8 * to) (length bs) && leb to (length ws))
    (lay bs (8 * from) (runs (to - from) (λ j. (number 8).put (get_or ws (from + j) 0))))
    bs
