use Rattle.std.proofs.Common.{arith}
use Rattle.lines.proofs.Overwrites.{wrote_then}
use Rattle.listing.proofs.Writing.{spaced_more}
use Rattle.listing.proofs.line.write_fields.Goals as goal

pub loop-field-preserved : goal.loop-field-preserved
loop-field-preserved c =
    wrote_then (omega arith) c.loop-field.invariant c.write_field.ensures
    (spaced_more c.args.name.now c.args.fields.now c.loop-field.field-index c.loop-field-test.true)
