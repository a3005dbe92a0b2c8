-- A listing read back.
use Rattle.std.specs.Prelude.{◌≡◌, ℕ, ◌≤◌, List, length, None}
use Rattle.lines.specs.declared.line.Line.{Line}
use Rattle.text.specs.Reading.{reading}
use Rattle.listing.specs.Listing.{listing}

-- Reading the listing gives the table: its lines and no fault, wherever there is room for so many lines.
abbrev pub ReadsBack : List Line → Type 0
ReadsBack table = (room : ℕ) → length table ≤ room → reading (listing table) room ≡ record { lines = table; fault = None }
