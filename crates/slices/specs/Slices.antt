-- The store and the values of a C call, as bytes: document 02, T-02; docs/IMAGE.md.
use Rattle.std.specs.Prelude.{ℕ, cond, List, [], ◌∷◌, eqb, length}
use Rattle.codec.specs.Codec.{Codec}
use Rattle.codec.specs.Number.{number}
use Rattle.codec.specs.Array.{array}

-- the store: 8,192 words of 8 bytes, the lowest byte first
unfoldable pub words : Codec 65536 (List ℕ)
words = array 8192 (number 8) 0

-- the values: eleven such words, 0 behind the last value
unfoldable pub values : Codec 88 (List ℕ)
values = array 11 (number 8) 0

-- a slice of the values' length is written over; another is not touched
unfoldable pub filled : List ℕ → List ℕ → List ℕ
filled bytes vs = cond (eqb (length bytes) 88) (values.put vs) bytes

-- the values of a refusal: all zero
unfoldable pub cleared : List ℕ → List ℕ
cleared bytes = filled bytes (0 ∷ [])

-- the refusal of a wrong length, 0 where there is none
abbrev pub wrong_length : ℕ → ℕ → ℕ
wrong_length store values = cond (eqb store 65536) (cond (eqb values 88) 0 13) 2
