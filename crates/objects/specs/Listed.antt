-- What the program writes: document 02, T-06.
use Rattle.std.specs.Prelude.{ℕ, ◌≡◌, List}
use Rattle.runs.specs.Laws.Unbooted.{unbooted_free}
use Rattle.stream.specs.Run.{started}
use Rattle.ending.specs.Behind.{behind, table_behind}
use Rattle.ending.specs.Before.{NoBoot, unbooted_behind}
use Rattle.ending.specs.Printed.{printed_for}
use Rattle.listing.specs.Lines.{header, listing}
use Rattle.listing.specs.Laws.{listing_none}

-- WHAT THE PROGRAM WRITES for an input: the listing of the object table that the call program has behind it
abbrev pub listed : List ℕ → List ℕ
listed = printed_for listing

-- BEFORE A BOOT the header alone is written
pub unbooted_listed : (input : List ℕ) → NoBoot started input → listed input ≡ header
unbooted_listed input n = listing_none (table_behind input) (unbooted_free (behind input).state (unbooted_behind input n))
