use Rattle.balance.proofs.Lent.{always}
use Rattle.balance.proofs.balance.balance.Goals as goal

pub returns-then-needed-table-clause-always : goal.returns-then-needed-table-clause-always
returns-then-needed-table-clause-always c = always c.args.lines.now c.requires

pub returns-clause-always : goal.returns-clause-always
returns-clause-always c = always c.args.lines.now c.requires
