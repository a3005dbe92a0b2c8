use Rattle.std.proofs.Common.{arith}
use Rattle.nesting.proofs.Views.{item_under}
use Rattle.nesting.proofs.stack.Stack.peek.Goals as goal

pub returns-clause-item : goal.returns-clause-item
returns-clause-item g c = grind (arith, item_under c.self.inside.items c.self.inside.depth c.args.under)
