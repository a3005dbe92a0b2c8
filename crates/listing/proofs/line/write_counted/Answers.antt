use Rattle.std.proofs.Common.{refl, append_assoc, append-nil, arith}
use Rattle.lines.proofs.Overwrites.{wrote_then}
use Rattle.listing.proofs.line.write_counted.Goals as goal

pub returns : goal.returns
returns c =
    let field = wrote_then (omega arith) c.write.ensures c.write_field.ensures refl in
    let space = wrote_then (omega arith) field c.write-2.ensures refl in
    wrote_then (omega arith) space c.write_number.ensures (simp (append_assoc, append-nil))
