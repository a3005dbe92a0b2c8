-- What preparing a rule answers, and what it leaves in the two lent tables.
use Rattle.std.specs.Prelude.{◌≡◌, ℕ, ◌≤◌, List, length, take, Ok, Err, Result}
use Rattle.lines.specs.Sizes.{TableBelow}
use Rattle.lines.specs.declared.line.Line.{Line}
use Rattle.rules.specs.declared.check.Costs.{Costs}
use Rattle.rules.specs.declared.fault.CheckFault.{CheckFault}
use Rattle.rules.specs.Checks.{Checked, checked, costs_of}
use Rattle.rules.specs.Trees.{rule_of}
use Rattle.tables.specs.Admission.{Admitted, lines_of}
use Rattle.tables.specs.Steps.{steps}
use Rattle.balance.specs.Balancing.{balanced_lines_of, balance_answer, table_after, Written}
use Rattle.text.specs.declared.fault.ReadFault.{ReadFault}
use Rattle.text.specs.Reading.{Reading, reading, answer}
use Rattle.preparation.specs.declared.fault.PrepareFault.{PrepareFault}
use Rattle.preparation.specs.declared.fault.PrepareFault.TheVariants as fault
use Rattle.preparation.specs.declared.prepare.Prepared.{Prepared}

-- What follows a stage's answer: the fault as that stage's, or the next stage.
abbrev pub staged : {A B E : Type 0} → Result A E → (E → PrepareFault) → (A → Result B PrepareFault) → Result B PrepareFault
staged (Ok a) as-stage next = next a
staged (Err e) as-stage next = Err (as-stage e)

-- A table of lines is checked, and balanced into a table with so many entries: its costs, and how many balanced lines there are.
abbrev pub balancing : List Line → ℕ → Result (Costs × ℕ) PrepareFault
balancing lines room =
    staged (checked lines) fault.Check (λ costs. staged (balance_answer (balanced_lines_of lines) room) fault.Balance (λ m. Ok (costs, m)))

-- What was read is the rule's table, which is checked and balanced.
abbrev pub readied : Reading → ℕ → Result Prepared PrepareFault
readied r room =
    staged (answer r) fault.Read (λ n.
    staged (balancing r.lines room) (λ e. e) (λ p.
    Ok (record { rule_lines = n; balanced_lines = p.1; costs = p.0 })))

-- What preparing a text answers, with two tables of so many entries.
abbrev pub preparing : List ℕ → ℕ → ℕ → Result Prepared PrepareFault
preparing text entries room = readied (reading text entries) room

-- The second table: the balanced lines of a rule that passes the check in front, and otherwise as it was.
abbrev pub checked_after : Result Costs CheckFault → List Line → List Line → List Line
checked_after (Err e) lines table = table
checked_after (Ok costs) lines table = table_after (balanced_lines_of lines) table

-- The second table where something was read, and where reading was refused.
abbrev pub read_after : Result ℕ ReadFault → List Line → List Line → List Line
read_after (Err e) lines table = table
read_after (Ok n) lines table = checked_after (checked lines) lines table

-- The second table after preparing.
abbrev pub second_table : List ℕ → ℕ → List Line → List Line
second_table text entries table = let r = reading text entries in read_after (answer r) r.lines table

-- A rule and its balanced table: the rule is checked and has these costs; the table holds its balanced lines and no others, is admitted, has fields
-- to f95 and numbers of at most 32 bits, and takes the steps that the costs say.
pub record Balanced (rule table : List Line) (costs : Costs) : Type 0 where
  pub checked : Checked rule
  pub costed : costs ≡ costs_of (rule_of rule)
  pub lines : table ≡ balanced_lines_of rule
  pub admitted : Admitted table
  pub sized : TableBelow 96 table
  pub steps : steps (lines_of table) ≡ costs.balanced

-- What was prepared stands in front of the two tables, the rule checked and its balanced lines admitted.
pub record Ready (p : Prepared) (rule table : List Line) : Type 0 where
  pub within : p.rule_lines ≤ length rule
  pub checked : Checked (take p.rule_lines rule)
  pub written : Written p.balanced_lines table
