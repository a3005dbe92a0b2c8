-- The numbers, places and sentences of the check's faults.
use Rattle.std.specs.Prelude.{ℕ, List, codes}
use Rattle.rules.specs.declared.fault.CheckFault.{CheckFault}
use Rattle.rules.specs.declared.fault.CheckFault.TheVariants as fault

-- A fault's number.
abbrev pub fault_number : CheckFault → ℕ
fault_number (fault.TooManyLines n) = 10
fault_number (fault.TurnInRule n) = 11
fault_number (fault.FieldOffCard n) = 12
fault_number (fault.StrayElse n) = 13
fault_number (fault.SecondElse n) = 13
fault_number (fault.StrayEnd n) = 13
fault_number (fault.MissingElse n) = 13
fault_number (fault.TooDeep n) = 14
fault_number (fault.BreakOutsideLoop n) = 15
fault_number (fault.TooManyRounds n) = 16
fault_number (fault.Unclosed n) = 13
fault_number (fault.TooManySteps n) = 17

-- A fault's place: the line's number from 0, and the line count for too many lines, a line left open and too many steps.
abbrev pub fault_place : CheckFault → ℕ
fault_place (fault.TooManyLines count) = count
fault_place (fault.TurnInRule line) = line
fault_place (fault.FieldOffCard line) = line
fault_place (fault.StrayElse line) = line
fault_place (fault.SecondElse line) = line
fault_place (fault.StrayEnd line) = line
fault_place (fault.MissingElse line) = line
fault_place (fault.TooDeep line) = line
fault_place (fault.BreakOutsideLoop line) = line
fault_place (fault.TooManyRounds line) = line
fault_place (fault.Unclosed count) = count
fault_place (fault.TooManySteps count) = count

-- What is wrong with the table, in a sentence.
abbrev pub check_sentence : CheckFault → List ℕ
check_sentence (fault.TooManyLines count) = codes "the rule has more than 256 lines"
check_sentence (fault.TurnInRule at) = codes "a rule has no `turn`"
check_sentence (fault.FieldOffCard at) = codes "a field is over f63"
check_sentence (fault.StrayElse at) = codes "the innermost open line is no `if`"
check_sentence (fault.SecondElse at) = codes "the `if` has an `else` already"
check_sentence (fault.StrayEnd at) = codes "no line is open here"
check_sentence (fault.MissingElse at) = codes "the `if` has no `else`"
check_sentence (fault.TooDeep at) = codes "the line opens inside eight others"
check_sentence (fault.BreakOutsideLoop at) = codes "the `break` is outside every loop"
check_sentence (fault.TooManyRounds at) = codes "the loop has more than 1,000 rounds"
check_sentence (fault.Unclosed count) = codes "a line is left open at the end"
check_sentence (fault.TooManySteps count) = codes "the rule takes more than 65,535 steps once balanced"
