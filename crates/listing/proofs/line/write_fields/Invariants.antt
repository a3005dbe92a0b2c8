use Rattle.std.proofs.Common.{◌∷◌, map, take}
use Rattle.lines.specs.Overwrites.{Wrote}
use Rattle.listing.specs.Listing.{field_word, spaced}
use Rattle.listing.proofs.line.write_fields.Given as goal

abbrev pub invariant-loop-field : goal.invariant-loop-field
invariant-loop-field l = Wrote l.fn.out (spaced (l.name ∷ map field_word (take l.field-index l.fields))) l.out
