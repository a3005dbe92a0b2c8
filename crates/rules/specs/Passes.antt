-- The check in one pass: costs are summed up line by line, and cut off where a rule has too many steps in any case.
use Rattle.std.specs.Prelude.{ℕ, ◌+◌, ◌-◌, ◌*◌, max, cond, List, [], ◌∷◌, length, Ok, Err, Result, nat_lt}
use Rattle.lines.specs.Operations.{within, under}
use Rattle.lines.specs.declared.field.Field.{Field}
use Rattle.lines.specs.declared.line.Line.{Line}
use Rattle.lines.specs.declared.line.Line.TheVariants as line
use Rattle.nesting.specs.declared.open.Open.{Open}
use Rattle.nesting.specs.declared.open.Open.TheVariants as open_is
use Rattle.nesting.specs.declared.open.Frame.{Frame}
use Rattle.rules.specs.declared.fault.CheckFault.{CheckFault}
use Rattle.rules.specs.declared.fault.CheckFault.TheVariants as fault
use Rattle.rules.specs.declared.check.Costs.{Costs}
use Rattle.rules.specs.declared.check.Checker.{Checker}
use Rattle.rules.specs.declared.check.Sums.{Sums}
use Rattle.nesting.specs.Capped.{capped}
use Rattle.nesting.specs.Levels.{opens, loop_level}
use Rattle.nesting.specs.Passes.{passed}

-- Nothing, the costs of an empty block.
abbrev pub free : Costs
free = record { plain = 0; balanced = 0 }

-- The costs before the first line.
abbrev pub start : Costs
start = record { plain = 0; balanced = 3 }

-- The costs, and so much more.
abbrev pub plus : Costs → ℕ → ℕ → Costs
plus c p b = record { plain = capped (c.plain + p); balanced = capped (c.balanced + b) }

-- Where the check stands: the open lines with what was summed up before them, and the costs of the block so far.
abbrev pub Walk : Type 0
Walk = Checker

-- A line opens.
abbrev pub opening : ℕ → Open → Walk → Result Walk CheckFault
opening at o w = cond (nat_lt (length w.stack) 8) (Ok (record { stack = record { part = o; kept = record { before = w.costs; first = free } } ∷ w.stack; costs = free })) (Err (fault.TooDeep at))

-- The first part of an open line is over, which is to be an `if`.
abbrev pub else_of : ℕ → Open → Sums → List (Frame Sums) → Costs → Result Walk CheckFault
else_of at open_is.Then k st c = Ok (record { stack = record { part = open_is.Else; kept = record { before = k.before; first = c } } ∷ st; costs = free })
else_of at open_is.Else k st c = Err (fault.SecondElse at)
else_of at (open_is.Loop i n) k st c = Err (fault.StrayElse at)

-- The same of the innermost of the open lines, if there is one.
abbrev pub else_in : ℕ → List (Frame Sums) → Costs → Result Walk CheckFault
else_in at [] c = Err (fault.StrayElse at)
else_in at (f ∷ st) c = else_of at f.part f.kept st c

-- `else` ends the first part of the innermost open line.
abbrev pub halving : ℕ → Walk → Result Walk CheckFault
halving at w = else_in at w.stack w.costs

-- The costs of an `if` whose second part has the costs c, with those before it.
abbrev pub if_costs : Sums → Costs → Costs
if_costs k c = plus (plus k.before (1 + max k.first.plain c.plain) (5 + k.first.balanced)) 0 c.balanced

-- The costs of a loop whose body has the costs c, with those before it.
abbrev pub loop_costs : ℕ → Sums → Costs → Costs
loop_costs n k c = plus (plus k.before 1 4) (capped (n * c.plain)) (capped (n * capped (c.balanced + 1)))

-- An open line ends, whose last part has the costs c.
abbrev pub end_of : ℕ → Open → Sums → List (Frame Sums) → Costs → Result Walk CheckFault
end_of at open_is.Then k st c = Err (fault.MissingElse at)
end_of at open_is.Else k st c = Ok (record { stack = st; costs = if_costs k c })
end_of at (open_is.Loop i n) k st c = Ok (record { stack = st; costs = loop_costs n k c })

-- The same of the innermost of the open lines, if there is one.
abbrev pub end_in : ℕ → List (Frame Sums) → Costs → Result Walk CheckFault
end_in at [] c = Err (fault.StrayEnd at)
end_in at (f ∷ st) c = end_of at f.part f.kept st c

-- `end` ends the innermost open line.
abbrev pub closing : ℕ → Walk → Result Walk CheckFault
closing at w = end_in at w.stack w.costs

-- A `break` clears the masks from the loop's level up to its own.
abbrev pub breaking : ℕ → Walk → Result Walk CheckFault
breaking at w =
    let j = loop_level (opens w.stack) in
    cond (nat_lt 0 j) (Ok (record { stack = w.stack; costs = plus w.costs 1 (length w.stack - j + 2) })) (Err (fault.BreakOutsideLoop at))

-- A loop opens, if there is room for it and it has not too many rounds.
abbrev pub looping : ℕ → Field → ℕ → Walk → Result Walk CheckFault
looping at i n w = cond (nat_lt (length w.stack) 8) (cond (nat_lt n 1001) (opening at (open_is.Loop i n) w) (Err (fault.TooManyRounds at))) (Err (fault.TooDeep at))

-- One line of the pass.
abbrev pub step : ℕ → Walk → Line → Result Walk CheckFault
step at w (line.Operation o) = cond (within 64 o) (Ok (record { stack = w.stack; costs = plus w.costs 1 5 })) (Err (fault.FieldOffCard at))
step at w (line.If a) = cond (under 64 a) (opening at open_is.Then w) (Err (fault.FieldOffCard at))
step at w line.Else = halving at w
step at w line.End = closing at w
step at w (line.Loop i n) = cond (under 64 i) (looping at i n w) (Err (fault.FieldOffCard at))
step at w line.Break = breaking at w
step at w (line.Turn i n) = Err (fault.TurnInRule at)

-- What is answered at the end of a table: the costs, if no line is open and they are not too high.
abbrev pub finished : ℕ → List (Frame Sums) → Costs → Result Costs CheckFault
finished at [] c = cond (nat_lt c.balanced 65536) (Ok c) (Err (fault.TooManySteps at))
finished at (f ∷ st) c = Err (fault.Unclosed at)

-- What the check answers at the end of a table.
abbrev pub finish : ℕ → Walk → Result Costs CheckFault
finish at w = finished at w.stack w.costs

-- The check from line `at` on.
abbrev pub pass : ℕ → Walk → List Line → Result Costs CheckFault
pass at w lines = passed step finish at w lines
