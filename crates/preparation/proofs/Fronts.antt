-- What a reading leaves in front of the table.
use Rattle.std.proofs.Common.{◌≡◌, ℕ, ◌≤◌, List, length, take, drop, Ok, arith}
use Rattle.std.proofs.lemmas.List.{length-append, take_at}
use Rattle.std.proofs.lemmas.Result.{err_from_is_err_and}
use Rattle.preparation.proofs.Explained.{balancing_explained}
use Rattle.lines.specs.declared.line.Line.{Line}
use Rattle.rules.specs.declared.check.Costs.{Costs}
use Rattle.balance.proofs.Lent.{always}
use Rattle.listing.specs.RoundTrip.{ReadsBack}
use Rattle.listing.proofs.RoundTrip.{reads_back}
use Rattle.text.specs.Reading.{Reading, answer, filled}
use Rattle.preparation.specs.Preparing.{Balanced}

-- The balanced table reads back from its listing.
pub table_back : (lines table : List Line) (costs : Costs) → Balanced lines table costs → ReadsBack table
table_back lines table costs b = grind (arith, reads_back table, always lines)

-- The front of a table into which so many lines were read.
pub read_front : (r : Reading) (n : ℕ) (table : List Line) → Ok n ≡ answer r → take n (filled r table) ≡ r.lines
read_front r n table ok = grind (arith, take_at r.lines (drop (length r.lines) table))

pub read_within : (r : Reading) (n : ℕ) (table : List Line) → Ok n ≡ answer r → n ≤ length (filled r table)
read_within r n table ok = grind (arith, length-append r.lines (drop (length r.lines) table))

pub ruleset fronts = (read_front, read_within, table_back, reads_back, balancing_explained, err_from_is_err_and)
