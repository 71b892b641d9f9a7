-- The store's words off its bytes, and a run of them written.
use Rattle.std.specs.Prelude.{ℕ, suc, ◌≤◌, ◌≡◌, refl, true, List, length, drop}
use Rattle.std.proofs.Common.{◌∙◌, arith}
use Rattle.codec.specs.Codec.{Bytes}
use Rattle.codec.specs.Number.{number}
use Rattle.codec.specs.Array.{oks}
use Rattle.codec.specs.Anew.{Outside as OutsideOf, anew}
use Rattle.layout.specs.Whole.{words_read, words_put}
use Rattle.layout.specs.Laws.Words.{read_whole, put_within}
use Rattle.slices.specs.Slices.{words}

-- the words of a store of the right length
pub loaded : (ws bytes : List ℕ) → length ws ≡ 8192 → length bytes ≡ 65536 → words_read ws bytes ≡ words.get bytes
unfolding words
loaded ws bytes l m = read_whole 8192 ws bytes l (omega arith)

-- any bytes are words
oks_words : (k : ℕ) (bs : List ℕ) → oks (number 8) k bs ≡ true
unfolding number
oks_words ℕ.zero bs = refl
oks_words (suc k) bs = oks_words k (drop 8 bs)

-- outside the run the bytes have the words already
abbrev pub Outside : ℕ → ℕ → List ℕ → List ℕ → Type 0
Outside from to bytes ws = OutsideOf (number 8) 0 8192 bytes ws from to

pub saved : (from to : ℕ) (bytes ws : List ℕ) → Bytes bytes → length bytes ≡ 65536 → length ws ≡ 8192 → to ≤ 8192 → Outside from to bytes ws
    → words_put bytes ws from to ≡ words.put ws
unfolding words
saved from to bytes ws h l m within out =
    put_within from to bytes ws (omega arith) (omega arith) ∙ anew (number 8) 0 8192 bytes ws from to h l (oks_words 8192 bytes) within out
