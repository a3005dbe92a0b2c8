-- The lent table after balancing.
use Rattle.std.proofs.Common.{◌≡◌, ◌-◌, ◌^◌, min, List, [], ◌++◌, length, arith}
use Rattle.std.proofs.lemmas.List.{take_at}
use Rattle.lines.specs.declared.line.Line.{Line}
use Rattle.lines.proofs.Overwrites.{overwrite-front}
use Rattle.rules.specs.Trees.{rule_of}
use Rattle.rules.specs.Checks.{Checked}
use Rattle.rules.proofs.Checked.{is_rule}
use Rattle.balance.specs.Balanced.{balanced}
use Rattle.balance.specs.Balancing.{balanced_lines_of, AlwaysAdmitted}
use Rattle.balance.specs.Writing.{beginning, pass}
use Rattle.balance.proofs.Passed.{passed}
use Rattle.tables.proofs.Tables.{lines_flat}
use Rattle.balance.proofs.Balances.{counted, balanced_short, balanced_admitted}
use Rattle.balance.proofs.Limits.{below_short, balanced-below}

-- what is written for a checked rule
pub writes : (lines : List Line) → Checked lines → beginning ++ pass [] lines ≡ balanced_lines_of lines
writes lines c = grind (arith, (is_rule lines c).tree, passed (rule_of lines))

pub always : (lines : List Line) → Checked lines → AlwaysAdmitted lines
always lines c =
    let is = is_rule lines c in
    let r = rule_of lines in
    grind (arith, balanced_admitted lines is, balanced_short r, lines_flat (balanced r), counted r, balanced-below lines is, below_short lines)

-- a count of lines that cannot be too large
pub number_of : (lines : List Line) → Checked lines → min (length (beginning ++ pass [] lines)) (2 ^ 64 - 1) ≡ length (balanced_lines_of lines)
number_of lines c = let s = (always lines c).short in grind (arith, writes lines c)

-- what the lent table holds
pub ruleset lent = (writes, always, is_rule, balanced-below, number_of, take_at, overwrite-front)
