-- Which line of the text is at fault.
use Rattle.std.specs.Prelude.{◌≡◌, ℕ, ◌⊎◌, List, Some, None, Option}
use Rattle.rules.specs.declared.fault.CheckFault.{CheckFault}
use Rattle.rules.specs.declared.fault.CheckFault.TheVariants as check
use Rattle.text.specs.declared.fault.ReadFault.{ReadFault}
use Rattle.text.specs.declared.fault.ReadFault.TheVariants as read
use Rattle.text.specs.Reading.{written_by}
use Rattle.text.specs.TextLines.{numbered_line}
use Rattle.preparation.specs.declared.fault.PrepareFault.{PrepareFault}
use Rattle.preparation.specs.declared.fault.PrepareFault.TheVariants as fault

-- The text line of a fault of reading: its place, but for a text that is too long.
abbrev pub read_line : ReadFault → Option ℕ
read_line read.TextTooLong = None
read_line (read.NoLineWord line) = Some line
read_line (read.MissingOperand line) = Some line
read_line (read.BadOperand line) = Some line
read_line (read.ExtraToken line) = Some line
read_line (read.TooManyLines line) = Some line

-- The text line of a fault of the check: the one that the table line at fault was read from, but for those with no one line at fault.
abbrev pub check_line : List ℕ → CheckFault → Option ℕ
check_line text (check.TooManyLines count) = None
check_line text (check.TurnInRule at) = written_by text at
check_line text (check.FieldOffCard at) = written_by text at
check_line text (check.StrayElse at) = written_by text at
check_line text (check.SecondElse at) = written_by text at
check_line text (check.StrayEnd at) = written_by text at
check_line text (check.MissingElse at) = written_by text at
check_line text (check.TooDeep at) = written_by text at
check_line text (check.BreakOutsideLoop at) = written_by text at
check_line text (check.TooManyRounds at) = written_by text at
check_line text (check.Unclosed count) = None
check_line text (check.TooManySteps count) = None

-- The text line of a fault, if one is at fault.
abbrev pub fault_line : List ℕ → PrepareFault → Option ℕ
fault_line text (fault.Read f) = read_line f
fault_line text (fault.Check f) = check_line text f
fault_line text (fault.Balance f) = None

-- A number is told, and the text has the line of that number.
pub record Found (text : List ℕ) (o : Option ℕ) : Type 0 where
  pub number : ℕ
  pub line : List ℕ
  pub numbered : o ≡ Some number
  pub there : numbered_line text number ≡ Some line

-- A refusal is explained: its fault is in no one line, whatever the text, or it tells a line that this text has.
abbrev pub Explained : List ℕ → PrepareFault → Type 0
Explained text f = ((t : List ℕ) → fault_line t f ≡ None) ⊎ Found text (fault_line text f)
