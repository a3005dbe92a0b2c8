use Rattle.std.proofs.Common.{refl, arith}
use Rattle.lines.proofs.Overwrites.{wrote_then}
use Rattle.listing.proofs.line.write_line.Goals as goal

pub returns : goal.returns
returns c = wrote_then (omega arith) c.write_words.ensures c.write.ensures refl
