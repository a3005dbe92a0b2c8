use Rattle.std.proofs.Common.{◌∷◌, decimal, ap, arith}
use Rattle.lines.proofs.Overwrites.{wrote_then}
use Rattle.listing.proofs.line.write_field.Goals as goal

pub returns : goal.returns
returns c = wrote_then (omega arith) c.write.ensures c.write_number.ensures (ap (λ k. 32 ∷ 102 ∷ decimal k) c.from.ensures)
