use Rattle.std.specs.Prelude.{ℕ, suc, ◌≡◌, List}
use Rattle.calls.specs.Boot.{home_pair}
use Rattle.boot.proofs.boot_words.Given as goal

-- the words behind the first pairs of the first n domains
abbrev pub paired : List ℕ → ℕ → List ℕ → List ℕ
paired plan ℕ.zero words = words
paired plan (suc n) words = home_pair plan n (paired plan n words)

abbrev pub invariant-loop-d : goal.invariant-loop-d
invariant-loop-d l = l.store ≡ paired l.plan l.d l.initial.store
