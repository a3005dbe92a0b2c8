-- Rules that passed the check, as the program hands them on.
use Rattle.std.specs.Prelude.{Ok, Err, Result}
use Rattle.rules.specs.declared.check.Costs.{Costs}
use Rattle.rules.specs.declared.fault.CheckFault.{CheckFault}
use Rattle.rules.specs.declared.rule.CheckedRule.{CheckedRule}

-- What the rule costs that is answered, or its fault.
abbrev pub priced : Result CheckedRule CheckFault → Result Costs CheckFault
priced (Ok rule) = Ok rule.costs
priced (Err f) = Err f
