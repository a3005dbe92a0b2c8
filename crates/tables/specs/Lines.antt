-- Lines that never branch.
use Rattle.std.specs.Prelude.{ℕ, List, ◌∷◌}
use Rattle.lines.specs.declared.field.Field.{Field}
use Rattle.lines.specs.declared.operation.Operation.{Operation}
use Rattle.lines.specs.declared.line.Line.{Line}
use Rattle.lines.specs.declared.line.Line.TheVariants as line

-- Balanced lines: operations, and turns with their bodies. Each case holds the rest last.
pub data Lines : Type 0 where
  stop : Lines
  does : Operation → Lines → Lines
  turn : Field → ℕ → Lines → Lines → Lines

-- The lines one after another, with the lines `after` behind them.
unfoldable pub flat : Lines → List Line → List Line
flat stop after = after
flat (does o l) after = line.Operation o ∷ flat l after
flat (turn i n b l) after = line.Turn i n ∷ flat b (line.End ∷ flat l after)
