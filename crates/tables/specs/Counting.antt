-- Admission in one pass: steps are summed up line by line, and cut off where a table has too many in any case.
use Rattle.std.specs.Prelude.{ℕ, ◌+◌, ◌*◌, cond, List, [], ◌∷◌, length, Ok, Err, Result, nat_lt}
use Rattle.lines.specs.Operations.{within, under}
use Rattle.lines.specs.declared.line.Line.{Line}
use Rattle.lines.specs.declared.line.Line.TheVariants as line
use Rattle.nesting.specs.Capped.{capped}
use Rattle.nesting.specs.Passes.{passed}
use Rattle.tables.specs.declared.admit.OpenTurn.{OpenTurn}
use Rattle.tables.specs.declared.admit.StepCounter.{StepCounter}
use Rattle.tables.specs.declared.fault.AdmissionFault.{AdmissionFault}
use Rattle.tables.specs.declared.fault.AdmissionFault.TheVariants as fault

-- Where admission stands: the open turns, the innermost first, and the steps of the block so far.
abbrev pub Count : Type 0
Count = StepCounter

-- The steps of a turn whose body has n, with those before it.
abbrev pub turn_steps : OpenTurn → ℕ → ℕ
turn_steps t n = capped (capped (t.before + 1) + capped (t.rounds * capped (n + 1)))

-- The innermost of the open turns ends, if there is one.
abbrev pub end_in : ℕ → List OpenTurn → ℕ → Result Count AdmissionFault
end_in at [] n = Err (fault.StrayEnd at)
end_in at (t ∷ st) n = Ok (record { stack = st; steps = turn_steps t n })

-- `end` ends the innermost turn.
abbrev pub closing : ℕ → Count → Result Count AdmissionFault
closing at w = end_in at w.stack w.steps

-- A turn opens.
abbrev pub opening : ℕ → ℕ → Count → Result Count AdmissionFault
opening at rounds w =
    cond (nat_lt (length w.stack) 8) (cond (nat_lt rounds 1001) (Ok (record { stack = record { rounds = rounds; before = w.steps } ∷ w.stack; steps = 0 })) (Err (fault.TooManyRounds at))) (Err (fault.TooDeep at))

-- One line of the pass.
abbrev pub step : ℕ → Count → Line → Result Count AdmissionFault
step at w (line.Operation o) = cond (within 96 o) (Ok (record { stack = w.stack; steps = capped (w.steps + 1) })) (Err (fault.FieldOffTable at))
step at w (line.Turn i n) = cond (under 96 i) (opening at n w) (Err (fault.FieldOffTable at))
step at w line.End = closing at w
step at w line.Else = Err (fault.RuleLine at)
step at w line.Break = Err (fault.RuleLine at)
step at w (line.If a) = Err (fault.RuleLine at)
step at w (line.Loop i n) = Err (fault.RuleLine at)

-- What is answered at the end of a table: the steps, if no turn is open and they are not too many.
abbrev pub finished : ℕ → List OpenTurn → ℕ → Result ℕ AdmissionFault
finished at [] n = cond (nat_lt n 65536) (Ok n) (Err (fault.TooManySteps at))
finished at (t ∷ st) n = Err (fault.Unclosed at)

-- What admission answers at the end of a table.
abbrev pub finish : ℕ → Count → Result ℕ AdmissionFault
finish at w = finished at w.stack w.steps

-- Admission from line `at` on.
abbrev pub count : ℕ → Count → List Line → Result ℕ AdmissionFault
count at w lines = passed step finish at w lines
