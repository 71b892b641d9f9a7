-- Some lines and what they read as.
use Rattle.std.specs.Prelude.{◌≡◌, refl, [], ◌∷◌}
use Rattle.calls.specs.declared.Call.TheVariants.{OnStore, OnObject, OnDomain}
use Rattle.calls.specs.declared.Access.TheVariants.{Read}
use Rattle.calls.specs.declared.ObjectCall.TheVariants.{Create, Register}
use Rattle.calls.specs.declared.DomainCall.TheVariants.{PdxReturn}
use Rattle.lines.specs.Number.{field_of}
use Rattle.lines.specs.Split.{split}
use Rattle.lines.specs.Letters.{mnemonic_of}
use Rattle.lines.specs.Arguments.{numbers_of}
use Rattle.lines.specs.Reading.{unreadable, boot_by, call_by}
use Rattle.lines.specs.Grammar.{call_of, line_of}

-- 0,RD,0
pub read : line_of (48 ∷ 44 ∷ 82 ∷ 68 ∷ 44 ∷ 48 ∷ []) ≡ call_by 0 (OnStore (Read 0))
unfolding line_of split field_of numbers_of mnemonic_of call_of
read = refl

-- 0,BT,11,12,13,14,128,128,128,128,0,15,0,15,0,15,0,15
pub boot : line_of (48 ∷ 44 ∷ 66 ∷ 84 ∷ 44 ∷ 49 ∷ 49 ∷ 44 ∷ 49 ∷ 50 ∷ 44 ∷ 49 ∷ 51 ∷ 44 ∷ 49 ∷ 52 ∷ 44 ∷ 49 ∷ 50 ∷ 56 ∷ 44 ∷ 49 ∷ 50 ∷ 56 ∷ 44 ∷ 49 ∷ 50 ∷ 56 ∷ 44 ∷ 49 ∷ 50 ∷ 56 ∷ 44 ∷ 48 ∷ 44 ∷ 49 ∷ 53 ∷ 44 ∷ 48 ∷ 44 ∷ 49 ∷ 53 ∷ 44 ∷ 48 ∷ 44 ∷ 49 ∷ 53 ∷ 44 ∷ 48 ∷ 44 ∷ 49 ∷ 53 ∷ []) ≡ boot_by 0 (11 ∷ 12 ∷ 13 ∷ 14 ∷ 128 ∷ 128 ∷ 128 ∷ 128 ∷ 0 ∷ 15 ∷ 0 ∷ 15 ∷ 0 ∷ 15 ∷ 0 ∷ 15 ∷ [])
unfolding line_of split field_of numbers_of mnemonic_of call_of
boot = refl

-- 0,BT,11,12,13,14,128,128,128,128,0,15,0,15,0,15,0 (one number too few)
pub boot_short : line_of (48 ∷ 44 ∷ 66 ∷ 84 ∷ 44 ∷ 49 ∷ 49 ∷ 44 ∷ 49 ∷ 50 ∷ 44 ∷ 49 ∷ 51 ∷ 44 ∷ 49 ∷ 52 ∷ 44 ∷ 49 ∷ 50 ∷ 56 ∷ 44 ∷ 49 ∷ 50 ∷ 56 ∷ 44 ∷ 49 ∷ 50 ∷ 56 ∷ 44 ∷ 49 ∷ 50 ∷ 56 ∷ 44 ∷ 48 ∷ 44 ∷ 49 ∷ 53 ∷ 44 ∷ 48 ∷ 44 ∷ 49 ∷ 53 ∷ 44 ∷ 48 ∷ 44 ∷ 49 ∷ 53 ∷ 44 ∷ 48 ∷ []) ≡ unreadable
unfolding line_of split field_of numbers_of mnemonic_of call_of
boot_short = refl

-- 0,BT,11,12,13,14,128,128,128,128,0,15,0,15,0,15,0,15,1 (one too many)
pub boot_long : line_of (48 ∷ 44 ∷ 66 ∷ 84 ∷ 44 ∷ 49 ∷ 49 ∷ 44 ∷ 49 ∷ 50 ∷ 44 ∷ 49 ∷ 51 ∷ 44 ∷ 49 ∷ 52 ∷ 44 ∷ 49 ∷ 50 ∷ 56 ∷ 44 ∷ 49 ∷ 50 ∷ 56 ∷ 44 ∷ 49 ∷ 50 ∷ 56 ∷ 44 ∷ 49 ∷ 50 ∷ 56 ∷ 44 ∷ 48 ∷ 44 ∷ 49 ∷ 53 ∷ 44 ∷ 48 ∷ 44 ∷ 49 ∷ 53 ∷ 44 ∷ 48 ∷ 44 ∷ 49 ∷ 53 ∷ 44 ∷ 48 ∷ 44 ∷ 49 ∷ 53 ∷ 44 ∷ 49 ∷ []) ≡ unreadable
unfolding line_of split field_of numbers_of mnemonic_of call_of
boot_long = refl

-- 0,BT,11,12,13,14,128,128,128,128,0,15,0,15,0,15,0,x
pub boot_letter : line_of (48 ∷ 44 ∷ 66 ∷ 84 ∷ 44 ∷ 49 ∷ 49 ∷ 44 ∷ 49 ∷ 50 ∷ 44 ∷ 49 ∷ 51 ∷ 44 ∷ 49 ∷ 52 ∷ 44 ∷ 49 ∷ 50 ∷ 56 ∷ 44 ∷ 49 ∷ 50 ∷ 56 ∷ 44 ∷ 49 ∷ 50 ∷ 56 ∷ 44 ∷ 49 ∷ 50 ∷ 56 ∷ 44 ∷ 48 ∷ 44 ∷ 49 ∷ 53 ∷ 44 ∷ 48 ∷ 44 ∷ 49 ∷ 53 ∷ 44 ∷ 48 ∷ 44 ∷ 49 ∷ 53 ∷ 44 ∷ 48 ∷ 44 ∷ 120 ∷ []) ≡ unreadable
unfolding line_of split field_of numbers_of mnemonic_of call_of
boot_letter = refl

-- 0,CR,1,1,21,0
pub create : line_of (48 ∷ 44 ∷ 67 ∷ 82 ∷ 44 ∷ 49 ∷ 44 ∷ 49 ∷ 44 ∷ 50 ∷ 49 ∷ 44 ∷ 48 ∷ []) ≡ call_by 0 (OnObject (Create 1 1 21 0))
unfolding line_of split field_of numbers_of mnemonic_of call_of
create = refl

-- 0,CR,1,1,21
pub no_account : line_of (48 ∷ 44 ∷ 67 ∷ 82 ∷ 44 ∷ 49 ∷ 44 ∷ 49 ∷ 44 ∷ 50 ∷ 49 ∷ []) ≡ unreadable
unfolding line_of split field_of numbers_of mnemonic_of call_of
no_account = refl

-- 1,RG,33,32,32,12,1,2,3,4,5
pub register : line_of (49 ∷ 44 ∷ 82 ∷ 71 ∷ 44 ∷ 51 ∷ 51 ∷ 44 ∷ 51 ∷ 50 ∷ 44 ∷ 51 ∷ 50 ∷ 44 ∷ 49 ∷ 50 ∷ 44 ∷ 49 ∷ 44 ∷ 50 ∷ 44 ∷ 51 ∷ 44 ∷ 52 ∷ 44 ∷ 53 ∷ []) ≡ call_by 1 (OnObject (Register 33 32 (record { page = 32; password = 12 }) (record { count = 5; first = 1; second = 2; third = 3; fourth = 4 })))
unfolding line_of split field_of numbers_of mnemonic_of call_of
register = refl

-- 1,RG,33,32,32,12
pub no_entries : line_of (49 ∷ 44 ∷ 82 ∷ 71 ∷ 44 ∷ 51 ∷ 51 ∷ 44 ∷ 51 ∷ 50 ∷ 44 ∷ 51 ∷ 50 ∷ 44 ∷ 49 ∷ 50 ∷ []) ≡ call_by 1 (OnObject (Register 33 32 (record { page = 32; password = 12 }) (record { count = 0; first = 0; second = 0; third = 0; fourth = 0 })))
unfolding line_of split field_of numbers_of mnemonic_of call_of
no_entries = refl

-- 18446744073709551615,RT
pub largest : line_of (49 ∷ 56 ∷ 52 ∷ 52 ∷ 54 ∷ 55 ∷ 52 ∷ 52 ∷ 48 ∷ 55 ∷ 51 ∷ 55 ∷ 48 ∷ 57 ∷ 53 ∷ 53 ∷ 49 ∷ 54 ∷ 49 ∷ 53 ∷ 44 ∷ 82 ∷ 84 ∷ []) ≡ call_by 18446744073709551615 (OnDomain PdxReturn)
unfolding line_of split field_of numbers_of mnemonic_of call_of
largest = refl

-- 18446744073709551616,RT
pub too_large : line_of (49 ∷ 56 ∷ 52 ∷ 52 ∷ 54 ∷ 55 ∷ 52 ∷ 52 ∷ 48 ∷ 55 ∷ 51 ∷ 55 ∷ 48 ∷ 57 ∷ 53 ∷ 53 ∷ 49 ∷ 54 ∷ 49 ∷ 54 ∷ 44 ∷ 82 ∷ 84 ∷ []) ≡ unreadable
unfolding line_of split field_of numbers_of mnemonic_of call_of
too_large = refl

-- 0,RD,00
pub leading_zero : line_of (48 ∷ 44 ∷ 82 ∷ 68 ∷ 44 ∷ 48 ∷ 48 ∷ []) ≡ unreadable
unfolding line_of split field_of numbers_of mnemonic_of call_of
leading_zero = refl

-- 0,RD, 0
pub blank : line_of (48 ∷ 44 ∷ 82 ∷ 68 ∷ 44 ∷ 32 ∷ 48 ∷ []) ≡ unreadable
unfolding line_of split field_of numbers_of mnemonic_of call_of
blank = refl

-- 0,RD
pub field_missing : line_of (48 ∷ 44 ∷ 82 ∷ 68 ∷ []) ≡ unreadable
unfolding line_of split field_of numbers_of mnemonic_of call_of
field_missing = refl

-- 0,GT,
pub empty_field : line_of (48 ∷ 44 ∷ 71 ∷ 84 ∷ 44 ∷ []) ≡ unreadable
unfolding line_of split field_of numbers_of mnemonic_of call_of
empty_field = refl

-- 0,gt
pub small_letters : line_of (48 ∷ 44 ∷ 103 ∷ 116 ∷ []) ≡ unreadable
unfolding line_of split field_of numbers_of mnemonic_of call_of
small_letters = refl

-- an empty line
pub empty : line_of ([]) ≡ unreadable
unfolding line_of split field_of numbers_of mnemonic_of call_of
empty = refl
