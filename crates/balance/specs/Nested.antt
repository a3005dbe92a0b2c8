-- Lines that fit what is open around them.
use Rattle.std.specs.Prelude.{◌<◌, List, length}
use Rattle.lines.specs.declared.line.Line.{Line}
use Rattle.lines.specs.declared.line.Line.TheVariants as line
use Rattle.nesting.specs.declared.open.Open.{Open}

-- An opening line is inside fewer than eight others.
abbrev pub Nested : List Open → Line → Type 0
Nested st (line.Operation o) = Unit {0}
Nested st (line.If a) = length st < 8
Nested st line.Else = Unit {0}
Nested st line.End = Unit {0}
Nested st (line.Loop i n) = length st < 8
Nested st line.Break = Unit {0}
Nested st (line.Turn i n) = Unit {0}
