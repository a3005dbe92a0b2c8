use Rattle.std.proofs.Common.{arith}
use Rattle.balance.proofs.Clears.{ending_some}
use Rattle.balance.proofs.write.write_end.Goals as goal

pub returns-in-Loop : goal.returns-in-Loop
returns-in-Loop g c = grind (arith, ending_some c.args.stack.now c.in-Some.frame c.in-Some.ensures.item)
