-- Which tables are rules: the conditions of the check, in their order.
use Rattle.std.specs.Prelude.{◌≡◌, ℕ, ◌+◌, ◌≤◌, List, [], ◌∷◌, length, Some, None, Option, Result, nat_lt}
use Rattle.lines.specs.Operations.{within, under}
use Rattle.lines.specs.declared.line.Line.{Line}
use Rattle.lines.specs.declared.line.Line.TheVariants as line
use Rattle.nesting.specs.declared.open.Open.{Open}
use Rattle.nesting.specs.declared.open.Open.TheVariants as open_is
use Rattle.rules.specs.declared.fault.CheckFault.{CheckFault}
use Rattle.rules.specs.declared.fault.CheckFault.TheVariants as fault
use Rattle.rules.specs.declared.check.Costs.{Costs}
use Rattle.nesting.specs.Conditions.{unless, first, or_fault}
use Rattle.nesting.specs.Nesting.{below}
use Rattle.nesting.specs.Levels.{loop_level}
use Rattle.rules.specs.Trees.{Rule, StandsFor, Fits, rule_of}
use Rattle.rules.specs.Costs.{plain_cost, balanced_cost}

-- `else` fits an open `if` that had none yet.
abbrev pub else_fault : ℕ → List Open → Option CheckFault
else_fault at [] = Some (fault.StrayElse at)
else_fault at (open_is.Then ∷ st) = None
else_fault at (open_is.Else ∷ st) = Some (fault.SecondElse at)
else_fault at (open_is.Loop i n ∷ st) = Some (fault.StrayElse at)

-- `end` fits an open loop, and an open `if` that had its `else`.
abbrev pub end_fault : ℕ → List Open → Option CheckFault
end_fault at [] = Some (fault.StrayEnd at)
end_fault at (open_is.Then ∷ st) = Some (fault.MissingElse at)
end_fault at (open_is.Else ∷ st) = None
end_fault at (open_is.Loop i n ∷ st) = None

-- The first of these that line `at` breaks, inside the open lines st, the innermost first: a rule has no `turn`; its fields are of the card; `else`
-- and `end` fit what is open; a line opens at a level below 8; a `break` is inside a loop; a loop has at most 1,000 rounds.
abbrev pub line_fault : ℕ → List Open → Line → Option CheckFault
line_fault at st (line.Operation o) = unless (within 64 o) (fault.FieldOffCard at)
line_fault at st (line.If a) = first (unless (under 64 a) (fault.FieldOffCard at)) (unless (nat_lt (length st) 8) (fault.TooDeep at))
line_fault at st line.Else = else_fault at st
line_fault at st line.End = end_fault at st
line_fault at st (line.Loop i n) =
    first (unless (under 64 i) (fault.FieldOffCard at))
    (first (unless (nat_lt (length st) 8) (fault.TooDeep at)) (unless (nat_lt n 1001) (fault.TooManyRounds at)))
line_fault at st line.Break = unless (nat_lt 0 (loop_level st)) (fault.BreakOutsideLoop at)
line_fault at st (line.Turn i n) = Some (fault.TurnInRule at)

-- What is open after a line that fits.
abbrev pub after : List Open → Line → List Open
after st (line.Operation o) = st
after st (line.If a) = open_is.Then ∷ st
after st line.Else = open_is.Else ∷ below st
after st line.End = below st
after st (line.Loop i n) = open_is.Loop i n ∷ st
after st line.Break = st
after st (line.Turn i n) = st

-- The first fault of the lines from line `at` on, and at their end the fault of a line left open.
unfoldable pub nesting_fault : ℕ → List Open → List Line → Option CheckFault
nesting_fault at [] [] = None
nesting_fault at (o ∷ st) [] = Some (fault.Unclosed at)
nesting_fault at st (x ∷ xs) = first (line_fault at st x) (nesting_fault (at + 1) (after st x) xs)

-- The first fault of a table: too many lines before all others, then those of its lines, last too many steps.
abbrev pub first_fault : List Line → Option CheckFault
first_fault lines =
    first (unless (nat_lt (length lines) 257) (fault.TooManyLines (length lines)))
    (first (nesting_fault 0 [] lines)
    (unless (nat_lt (balanced_cost (rule_of lines)) 65536) (fault.TooManySteps (length lines))))

-- A checked table is one with no fault.
pub record Checked (lines : List Line) : Type 0 where
  pub faultless : first_fault lines ≡ None

-- What a checked table is: the table of one rule, which fits a card and has at most 65,535 steps.
pub record IsRule (lines : List Line) : Type 0 where
  pub tree : StandsFor lines (rule_of lines)
  pub only : (r : Rule) → StandsFor lines r → r ≡ rule_of lines
  pub fits : Fits (rule_of lines) 0 0
  pub short : length lines ≤ 256
  pub cheap : balanced_cost (rule_of lines) ≤ 65535

-- What a rule costs.
abbrev pub costs_of : Rule → Costs
costs_of r = record { plain = plain_cost r; balanced = balanced_cost r }

-- What the check answers: the first fault, or the costs of the rule that the table stands for.
abbrev pub checked : List Line → Result Costs CheckFault
checked lines = or_fault (first_fault lines) (costs_of (rule_of lines))
