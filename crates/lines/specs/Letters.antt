-- The call letters: document 01, "The calls".
use Rattle.std.specs.Prelude.{ℕ, ◌+◌, ◌*◌, ◌<◌, ◌≡◌, cond, List, eqb, length, get_or, Option, Some, None}
use Rattle.std.proofs.Common.{arith}
use Rattle.lines.specs.declared.Named.{Named}
use Rattle.lines.specs.declared.Named.TheVariants.{Boot, Call}
use Rattle.lines.specs.declared.Mnemonic.TheVariants.{Rd, Wr, Ex, Lk, Cr, Dl, Ap, Dp, Rg, In, Rm, Gt, Lo, Ca, Rt}

-- what letters name, where they are known
abbrev pub Letters : Type 0
Letters = Option Named

-- two letters as one number
abbrev pub letters_pair : ℕ → ℕ → ℕ
letters_pair a b = a * 256 + b

-- other bytes give another number
pub pair_same : (a b c d : ℕ) → b < 256 → d < 256 → letters_pair a b ≡ letters_pair c d → (a ≡ c) × (b ≡ d)
pair_same a b c d h k e = (omega arith, omega arith)

-- the letters of each call in ASCII, two as one number
unfoldable pub mnemonic_of : ℕ → Letters
mnemonic_of letters =
    cond (eqb letters 0x4254) (Some Boot)
    (cond (eqb letters 0x5244) (Some (Call Rd))
    (cond (eqb letters 0x5752) (Some (Call Wr))
    (cond (eqb letters 0x4558) (Some (Call Ex))
    (cond (eqb letters 0x4c4b) (Some (Call Lk))
    (cond (eqb letters 0x4352) (Some (Call Cr))
    (cond (eqb letters 0x444c) (Some (Call Dl))
    (cond (eqb letters 0x4150) (Some (Call Ap))
    (cond (eqb letters 0x4450) (Some (Call Dp))
    (cond (eqb letters 0x5247) (Some (Call Rg))
    (cond (eqb letters 0x494e) (Some (Call In))
    (cond (eqb letters 0x524d) (Some (Call Rm))
    (cond (eqb letters 0x4754) (Some (Call Gt))
    (cond (eqb letters 0x4c4f) (Some (Call Lo))
    (cond (eqb letters 0x4341) (Some (Call Ca))
    (cond (eqb letters 0x5254) (Some (Call Rt))
    None)))))))))))))))

-- the field of the letters has two of them
abbrev pub letters_of : List ℕ → Letters
letters_of l = cond (eqb (length l) 2) (mnemonic_of (letters_pair (get_or l 0 0) (get_or l 1 0))) None
