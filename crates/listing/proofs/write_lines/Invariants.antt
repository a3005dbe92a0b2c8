use Rattle.std.proofs.Common.{take}
use Rattle.lines.specs.Overwrites.{Wrote}
use Rattle.listing.specs.Listing.{listing}
use Rattle.listing.proofs.write_lines.Given as goal

abbrev pub invariant-loop-line : goal.invariant-loop-line
invariant-loop-line l = Wrote l.initial.out (listing (take l.line-index l.table)) l.out
