-- The numbers, places and sentences of the faults of admission.
use Rattle.std.specs.Prelude.{ℕ, List, codes}
use Rattle.tables.specs.declared.fault.AdmissionFault.{AdmissionFault}
use Rattle.tables.specs.declared.fault.AdmissionFault.TheVariants as fault

-- The number of a fault of admission.
abbrev pub admission_number : AdmissionFault → ℕ
admission_number (fault.TooManyLines n) = 30
admission_number (fault.RuleLine n) = 31
admission_number (fault.FieldOffTable n) = 32
admission_number (fault.StrayEnd n) = 33
admission_number (fault.TooDeep n) = 34
admission_number (fault.TooManyRounds n) = 35
admission_number (fault.Unclosed n) = 33
admission_number (fault.TooManySteps n) = 36

-- The place of a fault of admission: the line's number from 0, and the line count for too many lines, a turn left open and too many steps.
abbrev pub admission_place : AdmissionFault → ℕ
admission_place (fault.TooManyLines count) = count
admission_place (fault.RuleLine line) = line
admission_place (fault.FieldOffTable line) = line
admission_place (fault.StrayEnd line) = line
admission_place (fault.TooDeep line) = line
admission_place (fault.TooManyRounds line) = line
admission_place (fault.Unclosed count) = count
admission_place (fault.TooManySteps count) = count

-- What is wrong with the table, in a sentence.
abbrev pub admission_sentence : AdmissionFault → List ℕ
admission_sentence (fault.TooManyLines count) = codes "the table has more than 2,400 lines"
admission_sentence (fault.RuleLine line) = codes "a balanced table has no such line"
admission_sentence (fault.FieldOffTable line) = codes "a field is over f95"
admission_sentence (fault.StrayEnd line) = codes "no turn is open here"
admission_sentence (fault.TooDeep line) = codes "the turn opens inside eight others"
admission_sentence (fault.TooManyRounds line) = codes "the turn has more than 1,000 rounds"
admission_sentence (fault.Unclosed count) = codes "a turn is left open at the end"
admission_sentence (fault.TooManySteps count) = codes "the table takes more than 65,535 steps"
