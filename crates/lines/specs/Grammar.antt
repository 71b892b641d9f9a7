-- A line of the call program: document 01, "The call program" and "The calls".
use Rattle.std.specs.Prelude.{ℕ, ◌-◌, cond, List, [], ◌∷◌, leb, ltb, eqb, length, get_or, Some, None}
use Rattle.std.proofs.Math.Option.{Option, none, some}
use Rattle.calls.specs.Boot.{boot_numbers}
use Rattle.calls.specs.declared.Call.{Call}
use Rattle.calls.specs.declared.Call.TheVariants.{OnStore, OnObject, OnDomain}
use Rattle.calls.specs.declared.Access.TheVariants.{Read, Write, Execute, Lookup}
use Rattle.calls.specs.declared.ObjectCall.{ObjectCall}
use Rattle.calls.specs.declared.ObjectCall.TheVariants.{Create, Delete, AddPassword, DropPassword, Register}
use Rattle.calls.specs.declared.DomainCall.TheVariants.{Insert, Remove, Get, Lock, PdxCall, PdxReturn}
use Rattle.lines.specs.declared.Named.TheVariants as named
use Rattle.lines.specs.declared.Mnemonic.{Mnemonic}
use Rattle.lines.specs.declared.Mnemonic.TheVariants.{Rd, Wr, Ex, Lk, Cr, Dl, Ap, Dp, Rg, In, Rm, Gt, Lo, Ca, Rt}
use Rattle.lines.specs.Number.{Field, Empty, Number, Bad, field_of}
use Rattle.lines.specs.Split.{split}
use Rattle.lines.specs.Letters.{Letters, letters_of}
use Rattle.lines.specs.Arguments.{numbers_of}
use Rattle.lines.specs.Reading.{Reading, unreadable, boot_by, call_by}

-- the longest line has so many bytes before its line feed; the code's `LINE_BYTES`
abbrev pub line_bytes : ℕ
line_bytes = 200

-- a call that has as many arguments as it takes
abbrev pub exactly : ℕ → ℕ → ℕ → Call → Reading
exactly d count n c = cond (eqb count n) (call_by d c) unreadable

-- a call that takes n arguments or more
abbrev pub at_least : ℕ → ℕ → ℕ → Call → Reading
at_least d count n c = cond (leb n count) (call_by d c) unreadable

-- a boot takes exactly its numbers
abbrev pub boot_of : ℕ → List ℕ → Reading
boot_of d vs = cond (eqb (length vs) boot_numbers) (boot_by d vs) unreadable

-- argument k of those in x
abbrev pub argument : List ℕ → ℕ → ℕ
argument x k = get_or x k 0

-- RG with n arguments: behind the first four, any number of entries, of which the first four are kept
abbrev pub register_of : ℕ → List ℕ → ObjectCall
register_of n x =
    Register (argument x 0) (argument x 1) (record { page = argument x 2; password = argument x 3 })
    (record { count = n - 4; first = argument x 4; second = argument x 5; third = argument x 6; fourth = argument x 7 })

-- the call of each pair of letters, with n arguments, the first eight in x
unfoldable pub call_of : ℕ → Mnemonic → ℕ → List ℕ → Reading
call_of d Rd n x = exactly d n 1 (OnStore (Read (argument x 0)))
call_of d Wr n x = exactly d n 2 (OnStore (Write (argument x 0) (argument x 1)))
call_of d Ex n x = exactly d n 1 (OnStore (Execute (argument x 0)))
call_of d Lk n x = exactly d n 2 (OnStore (Lookup (argument x 0) (argument x 1)))
call_of d Cr n x = exactly d n 4 (OnObject (Create (argument x 0) (argument x 1) (argument x 2) (argument x 3)))
call_of d Dl n x = exactly d n 1 (OnObject (Delete (argument x 0)))
call_of d Ap n x = exactly d n 3 (OnObject (AddPassword (argument x 0) (argument x 1) (argument x 2)))
call_of d Dp n x = exactly d n 2 (OnObject (DropPassword (argument x 0) (argument x 1)))
call_of d Rg n x = at_least d n 4 (OnObject (register_of n x))
call_of d In n x = exactly d n 3 (OnDomain (Insert (argument x 0) (record { page = argument x 1; password = argument x 2 })))
call_of d Rm n x = exactly d n 1 (OnDomain (Remove (argument x 0)))
call_of d Gt n x = exactly d n 0 (OnDomain Get)
call_of d Lo n x = exactly d n 1 (OnDomain (Lock (argument x 0)))
call_of d Ca n x = exactly d n 2 (OnDomain (PdxCall (argument x 0) (argument x 1)))
call_of d Rt n x = exactly d n 0 (OnDomain PdxReturn)

-- domain, call letters, arguments: the letters are known, and each other field is a number
abbrev pub with_arguments : ℕ → Letters → Option (List ℕ) → Reading
with_arguments d l none = unreadable
with_arguments d None (some vs) = unreadable
with_arguments d (Some named.Boot) (some vs) = boot_of d vs
with_arguments d (Some (named.Call m)) (some vs) = call_of d m (length vs) vs

abbrev pub line_with : Field → List (List ℕ) → Reading
line_with (Number d) (l ∷ fs) = with_arguments d (letters_of l) (numbers_of fs)
line_with (Number d) [] = unreadable
line_with Empty fs = unreadable
line_with Bad fs = unreadable

-- a line, the bytes before its line feed: not too many, split at the commas
unfoldable pub line_of : List ℕ → Reading
line_of s = cond (ltb line_bytes (length s)) unreadable (line_with (field_of (split s).first) (split s).others)
