-- One more word of a line, one more line of a table, and the buffer afterwards.
use Rattle.std.proofs.Common.{◌≡◌, ℕ, ◌+◌, ◌<◌, ◌≤◌, List, [], ◌∷◌, ◌++◌, map, length, get_or, take, arith}
use Rattle.std.proofs.lemmas.List.{take_more, map_more, flat_map_more}
use Rattle.lines.specs.Overwrites.{overwrite}
use Rattle.lines.specs.declared.field.Field.{Field}
use Rattle.lines.specs.declared.line.Line.{Line}
use Rattle.lines.specs.declared.line.Line.TheVariants as line
use Rattle.lines.proofs.Overwrites.{overwrite-front}
use Rattle.listing.specs.Answers.{buffer_after}
use Rattle.listing.specs.Listing.{field_word, spaced_word, spaced, line_bytes, listing}

-- A name and the fields after it, with one more of them.
abbrev pub no_field : Field
no_field = record { 0 = 0 }

pub spaced_more : (name : List ℕ) (fields : List Field) (i : ℕ) → i < length fields → spaced (name ∷ map field_word (take i fields)) ++ spaced_word (field_word (get_or fields i no_field)) ≡ spaced (name ∷ map field_word (take (i + 1) fields))
spaced_more name fields i h = grind (arith, map_more field_word fields i no_field, flat_map_more spaced_word name)

-- The listing of a table, with one more of its lines.
pub listing_more : (t : List Line) (i : ℕ) → i < length t → listing (take i t) ++ line_bytes (get_or t i line.End) ≡ listing (take (i + 1) t)
listing_more t i h = grind (arith, take_more t i line.End, flat_map_more line_bytes [])

-- The buffer afterwards, where there is room.
pub fit_buffer : (t : List Line) (buffer : List ℕ) → length (listing t) ≤ length buffer → overwrite buffer 0 (listing t) ≡ buffer_after t buffer
fit_buffer t buffer h = grind (arith, overwrite-front)
