-- What a call that lists a table answers and leaves.
use Rattle.std.specs.Prelude.{ℕ, Bool, cond, List, ◌++◌, length, drop, Ok, Err, Result, nat_le}
use Rattle.lines.specs.declared.line.Line.{Line}
use Rattle.listing.specs.declared.fault.ListFault.{ListFault}
use Rattle.listing.specs.declared.fault.ListFault.TheVariants.{BufferTooShort}
use Rattle.listing.specs.Listing.{listing}

-- Whether the listing has room in so many bytes.
abbrev pub fits : List Line → ℕ → Bool
fits table room = nat_le (length (listing table)) room

-- The answer: how many bytes the listing has, or that the buffer is too short for it.
abbrev pub listed : List Line → ℕ → Result ℕ ListFault
listed table room = cond (fits table room) (Ok (length (listing table))) (Err BufferTooShort)

-- The buffer afterwards: the whole listing and what stood behind it, or the buffer as it was.
abbrev pub buffer_after : List Line → List ℕ → List ℕ
buffer_after table buffer = cond (fits table (length buffer)) (listing table ++ drop (length (listing table)) buffer) buffer
