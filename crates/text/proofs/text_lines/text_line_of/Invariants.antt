use Rattle.std.proofs.Common.{◌≡◌, ◌-◌, length}
use Rattle.std.specs.List.{slice_get}
use Rattle.text.specs.Reading.{lines_left, token_lines, written_by}
use Rattle.text.proofs.text_lines.text_line_of.Given as goal

-- of the lines that are left, the one sought has so many with a token before it
abbrev pub invariant-loop-reader : goal.invariant-loop-reader
invariant-loop-reader l =
    (l.reader.text.now ≡ l.text) × (slice_get (token_lines l.reader.number (lines_left l.reader)) l.before ≡ written_by l.text l.n)

abbrev pub decreases-loop-reader : goal.decreases-loop-reader
decreases-loop-reader l = length l.text - l.reader.at
