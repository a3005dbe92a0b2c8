-- Lines whose fields and numbers keep within limits.
use Rattle.std.specs.Prelude.{◌≡◌, ℕ, ◌^◌, ◌<◌, true, List}
use Rattle.std.specs.List.{AllByRecursion}
use Rattle.lines.specs.Operations.{immediate, under, within}
use Rattle.lines.specs.declared.line.Line.{Line}
use Rattle.lines.specs.declared.line.Line.TheVariants as line

-- The number has at most 32 bits.
abbrev pub Short : ℕ → Type 0
Short n = n < 2 ^ 32

-- The number in an operation line has at most 32 bits.
abbrev pub OperationShort : Line → Type 0
OperationShort line.End = Unit {0}
OperationShort line.Else = Unit {0}
OperationShort line.Break = Unit {0}
OperationShort (line.Operation o) = Short (immediate o)
OperationShort (line.If a) = Unit {0}
OperationShort (line.Loop i n) = Unit {0}
OperationShort (line.Turn i n) = Unit {0}

-- Each field of the line is one of the first k, and a number in it has at most 32 bits.
abbrev pub LineBelow : ℕ → Line → Type 0
LineBelow k line.End = Unit {0}
LineBelow k line.Else = Unit {0}
LineBelow k line.Break = Unit {0}
LineBelow k (line.Operation o) = (within k o ≡ true) × Short (immediate o)
LineBelow k (line.If a) = under k a ≡ true
LineBelow k (line.Loop i n) = (under k i ≡ true) × Short n
LineBelow k (line.Turn i n) = (under k i ≡ true) × Short n

-- The same of each line of a table.
abbrev pub TableBelow : ℕ → List Line → Type 0
TableBelow k table = AllByRecursion (LineBelow k) table
