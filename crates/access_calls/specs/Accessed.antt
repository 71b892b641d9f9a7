-- An access for any rights: checks 2, 5 and 7 of RD, WR, EX and LK.
use Rattle.std.specs.Prelude.{ℕ, cond, ltb, eqb, Option, Result, Ok, Err, ok_or}
use Rattle.calls.specs.declared.Refusal.{Refusal}
use Rattle.calls.specs.declared.Refusal.TheVariants.{StoreLength, OutOfRange, NotGranted}

-- what a judgement gives
abbrev pub grant_of : Option ℕ → Result ℕ Refusal
grant_of j = ok_or j NotGranted

-- the same where a store of n words has its length, and the address lies in it
abbrev pub accessed_by : ℕ → ℕ → Option ℕ → Result ℕ Refusal
accessed_by n a j = cond (eqb n 8192) (cond (ltb a 8192) (grant_of j) (Err OutOfRange)) (Err StoreLength)
