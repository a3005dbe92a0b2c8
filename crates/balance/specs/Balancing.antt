-- What balancing answers, and what it leaves in the lent table.
use Rattle.std.specs.Prelude.{◌≡◌, ℕ, ◌≤◌, cond, List, ◌++◌, length, take, drop, Ok, Err, Result, nat_lt}
use Rattle.lines.specs.Sizes.{TableBelow}
use Rattle.lines.specs.declared.line.Line.{Line}
use Rattle.rules.specs.Trees.{rule_of}
use Rattle.rules.specs.Costs.{balanced_cost}
use Rattle.balance.specs.declared.fault.BalanceFault.{BalanceFault}
use Rattle.balance.specs.declared.fault.BalanceFault.TheVariants.{TableTooShort}
use Rattle.balance.specs.Balanced.{balanced, balanced_table}
use Rattle.tables.specs.Steps.{steps}
use Rattle.tables.specs.Admission.{lines_of, Admitted}

-- The balanced lines of a checked rule's table.
abbrev pub balanced_lines_of : List Line → List Line
balanced_lines_of lines = balanced_table (rule_of lines)

-- How many balanced lines there are, unless the lent table has room for fewer.
abbrev pub balance_answer : List Line → ℕ → Result ℕ BalanceFault
balance_answer out room = cond (nat_lt room (length out)) (Err TableTooShort) (Ok (length out))

-- The balanced lines in the first entries, the later ones as they were; all as it was where there is too little room.
abbrev pub table_after : List Line → List Line → List Line
table_after out table = cond (nat_lt (length table) (length out)) table (out ++ drop (length out) table)

-- What was written: the first n entries of the table, which are admitted.
pub record Written (n : ℕ) (table : List Line) : Type 0 where
  pub within : n ≤ length table
  pub admitted : Admitted (take n table)

-- The balanced lines of a checked rule are always admitted, at most 2,400, and take the steps that the rule's cost says. Their fields are
-- below 96 and their numbers have at most 32 bits where that holds of the rule's.
pub record AlwaysAdmitted (lines : List Line) : Type 0 where
  pub admitted : Admitted (balanced_lines_of lines)
  pub short : length (balanced_lines_of lines) ≤ 2400
  pub tree : lines_of (balanced_lines_of lines) ≡ balanced (rule_of lines)
  pub counted : steps (lines_of (balanced_lines_of lines)) ≡ balanced_cost (rule_of lines)
  pub sized : TableBelow 96 lines → TableBelow 96 (balanced_lines_of lines)
