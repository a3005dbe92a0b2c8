-- The tree that a rule's table stands for.
use Rattle.std.specs.Prelude.{◌≡◌, ℕ, suc, ◌<◌, true, List, [], ◌∷◌}
use Rattle.lines.specs.Operations.{within, under}
use Rattle.lines.specs.declared.field.Field.{Field}
use Rattle.nesting.specs.Blocks.{Blocks, last, before, front, behind, replace}
use Rattle.lines.specs.declared.operation.Operation.{Operation}
use Rattle.lines.specs.declared.line.Line.{Line}
use Rattle.lines.specs.declared.line.Line.TheVariants as line

-- A rule, or a part of one. Each case holds the rest of its block last, so that one type serves for parts and for blocks.
pub data Rule : Type 0 where
  done : Rule
  op : Operation → Rule → Rule
  when : Field → Rule → Rule → Rule → Rule
  loop : Field → ℕ → Rule → Rule → Rule
  break : Rule → Rule

-- The lines of a rule one after another, with the lines `after` behind them.
unfoldable pub flat : Rule → List Line → List Line
flat done after = after
flat (op o r) after = line.Operation o ∷ flat r after
flat (when a p q r) after = line.If a ∷ flat p (line.Else ∷ flat q (line.End ∷ flat r after))
flat (loop i n b r) after = line.Loop i n ∷ flat b (line.End ∷ flat r after)
flat (break r) after = line.Break ∷ flat r after

-- A table stands for the rule whose lines it holds.
abbrev pub StandsFor : List Line → Rule → Type 0
StandsFor lines r = lines ≡ flat r []

-- A table read from its end: a line is put in front of its block, `else` and `end` begin a block inside it, `if` and `loop` take theirs.
unfoldable pub blocks : List Line → Blocks Rule
blocks [] = last done
blocks (line.Operation o ∷ l) = let bs = blocks l in replace (op o (front bs)) bs
blocks (line.Break ∷ l) = let bs = blocks l in replace (break (front bs)) bs
blocks (line.Else ∷ l) = before done (blocks l)
blocks (line.End ∷ l) = before done (blocks l)
blocks (line.If a ∷ l) =
    let bs = blocks l in
    let cs = behind done bs in
    let ds = behind done cs in
    replace (when a (front bs) (front cs) (front ds)) ds
blocks (line.Loop i n ∷ l) =
    let bs = blocks l in
    let cs = behind done bs in
    replace (loop i n (front bs) (front cs)) cs
blocks (line.Turn i n ∷ l) = blocks l

-- The rule that a table stands for, if it stands for one.
abbrev pub rule_of : List Line → Rule
rule_of lines = front (blocks lines)

-- A rule as the check wants it, at level k, where the body of the innermost loop around it has level j, or j is 0: its fields are of the card,
-- it nests at most eight deep, every break is inside a loop, and no loop has more than 1,000 rounds.
abbrev pub Fits : Rule → ℕ → ℕ → Type 0
Fits done k j = Unit {0}
Fits (op o r) k j = (within 64 o ≡ true) × Fits r k j
Fits (when a p q r) k j = (under 64 a ≡ true) × (k < 8) × Fits p (suc k) j × Fits q (suc k) j × Fits r k j
Fits (loop i n b r) k j = (under 64 i ≡ true) × (k < 8) × (n < 1001) × Fits b (suc k) (suc k) × Fits r k j
Fits (break r) k j = (0 < j) × Fits r k j
