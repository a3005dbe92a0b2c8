use Rattle.std.proofs.Common.{arith}
use Rattle.lines.proofs.Overwrites.{wrote_then}
use Rattle.listing.proofs.Writing.{listing_more}
use Rattle.listing.proofs.write_lines.Goals as goal

pub loop-line-preserved : goal.loop-line-preserved
loop-line-preserved c =
    wrote_then (omega arith) c.loop-line.invariant c.write_line.ensures
    (listing_more c.args.table.now c.loop-line.line-index c.loop-line-test.true)
