-- Which tables may run: the conditions of admission, in their order.
use Rattle.std.specs.Prelude.{◌≡◌, ℕ, zero, suc, ◌+◌, ◌-◌, ◌<◌, ◌≤◌, true, List, [], ◌∷◌, length, Some, None, Option, Result, nat_lt}
use Rattle.lines.specs.Operations.{within, under}
use Rattle.lines.specs.declared.line.Line.{Line}
use Rattle.lines.specs.declared.line.Line.TheVariants as line
use Rattle.nesting.specs.Blocks.{Blocks, last, before, front, behind, replace}
use Rattle.nesting.specs.Conditions.{unless, first, or_fault}
use Rattle.tables.specs.declared.fault.AdmissionFault.{AdmissionFault}
use Rattle.tables.specs.declared.fault.AdmissionFault.TheVariants as fault
use Rattle.tables.specs.Lines.{Lines, stop, does, turn, flat}
use Rattle.tables.specs.Steps.{steps}

-- A table read from its end: a line is put in front of its block, `end` begins a block inside it, and `turn` takes its own.
unfoldable pub blocks : List Line → Blocks Lines
blocks [] = last stop
blocks (line.Operation o ∷ l) = let bs = blocks l in replace (does o (front bs)) bs
blocks (line.Turn i n ∷ l) =
    let bs = blocks l in
    let cs = behind stop bs in
    replace (turn i n (front bs) (front cs)) cs
blocks (line.End ∷ l) = before stop (blocks l)
blocks (line.Else ∷ l) = blocks l
blocks (line.Break ∷ l) = blocks l
blocks (line.If a ∷ l) = blocks l
blocks (line.Loop i n ∷ l) = blocks l

-- The balanced lines that a table stands for, if it stands for some.
abbrev pub lines_of : List Line → Lines
lines_of table = front (blocks table)

-- The first of these that line `at` breaks, where d turns are open: it is no line of rules alone; its fields are those of a table, f0 to f95; an
-- `end` has a turn to close; a turn is inside fewer than eight others, and has at most 1,000 rounds.
abbrev pub line_fault : ℕ → ℕ → Line → Option AdmissionFault
line_fault at d (line.Operation o) = unless (within 96 o) (fault.FieldOffTable at)
line_fault at d (line.Turn i n) =
    first (unless (under 96 i) (fault.FieldOffTable at))
    (first (unless (nat_lt d 8) (fault.TooDeep at)) (unless (nat_lt n 1001) (fault.TooManyRounds at)))
line_fault at d line.End = unless (nat_lt 0 d) (fault.StrayEnd at)
line_fault at d line.Else = Some (fault.RuleLine at)
line_fault at d line.Break = Some (fault.RuleLine at)
line_fault at d (line.If a) = Some (fault.RuleLine at)
line_fault at d (line.Loop i n) = Some (fault.RuleLine at)

-- How many turns are open after a line.
abbrev pub after : ℕ → Line → ℕ
after d (line.Operation o) = d
after d (line.Turn i n) = d + 1
after d line.End = d - 1
after d line.Else = d
after d line.Break = d
after d (line.If a) = d
after d (line.Loop i n) = d

-- The first fault of the lines from line `at` on, and at their end the fault of a turn left open.
unfoldable pub nesting_fault : ℕ → ℕ → List Line → Option AdmissionFault
nesting_fault at zero [] = None
nesting_fault at (suc d) [] = Some (fault.Unclosed at)
nesting_fault at d (x ∷ xs) = first (line_fault at d x) (nesting_fault (at + 1) (after d x) xs)

-- The first fault of a table: too many lines before all others, then those of its lines, last too many steps.
abbrev pub first_fault : List Line → Option AdmissionFault
first_fault table =
    first (unless (nat_lt (length table) 2401) (fault.TooManyLines (length table)))
    (first (nesting_fault 0 0 table)
    (unless (nat_lt (steps (lines_of table)) 65536) (fault.TooManySteps (length table))))

-- An admitted table is one with no fault.
pub record Admitted (table : List Line) : Type 0 where
  pub faultless : first_fault table ≡ None

-- Balanced lines as admission wants them, where d turns are open around them: fields f0 to f95, at most eight turns deep, at most 1,000 rounds a turn.
abbrev pub Runs : Lines → ℕ → Type 0
Runs stop d = Unit {0}
Runs (does o l) d = (within 96 o ≡ true) × Runs l d
Runs (turn i n b l) d = (under 96 i ≡ true) × (d < 8) × (n < 1001) × Runs b (d + 1) × Runs l d

-- What an admitted table is: the table of balanced lines, and of no others, which are as admission wants them; at most 2,400 lines and 65,535 steps.
pub record IsTable (table : List Line) : Type 0 where
  pub tree : table ≡ flat (lines_of table) []
  pub only : (l : Lines) → table ≡ flat l [] → l ≡ lines_of table
  pub runs : Runs (lines_of table) 0
  pub short : length table ≤ 2400
  pub quick : steps (lines_of table) ≤ 65535

-- What admission answers: the first fault, or the steps.
abbrev pub admission : List Line → Result ℕ AdmissionFault
admission table = or_fault (first_fault table) (steps (lines_of table))
