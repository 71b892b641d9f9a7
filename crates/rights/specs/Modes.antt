-- Rights and modes: document 01, "Rights and capabilities".
use Rattle.std.specs.Prelude.{ℕ, Bool, ◌&&◌, ◌||◌, not, ltb, eqb}
use Rattle.std.specs.Int.Bits.{bit_and}

-- the mode holds every bit of the set
abbrev pub holds_all : ℕ → ℕ → Bool
holds_all mode set = eqb (bit_and mode set) set

-- the mode holds no bit of the set
abbrev pub holds_none : ℕ → ℕ → Bool
holds_none mode set = eqb (bit_and mode set) 0

-- the rights, each a bit of its own, and the owner's: read, write, execute and destroy together
abbrev pub read : ℕ
read = 1

abbrev pub write : ℕ
write = 2

abbrev pub execute : ℕ
execute = 4

abbrev pub destroy : ℕ
destroy = 8

abbrev pub pdx : ℕ
pdx = 16

abbrev pub owner : ℕ
owner = 15

-- a legal mode is a byte with bits 32 and 64 clear that holds a right; PDX (16) stands only beside NOT (128)
abbrev pub legal : ℕ → Bool
legal mode = ltb mode 256 && holds_none mode 96 && not (holds_none mode 31) && (holds_none mode 16 || not (holds_none mode 128))

-- rule 3 of judging: a positive mode grants the rights where it holds them all, a negative one denies them where it holds any
abbrev pub grants : ℕ → ℕ → Bool
grants mode wanted = holds_none mode 128 && holds_all mode wanted

abbrev pub denies : ℕ → ℕ → Bool
denies mode wanted = not (holds_none mode 128) && not (holds_none mode wanted)
