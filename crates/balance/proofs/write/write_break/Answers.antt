use Rattle.std.proofs.Common.{◌-◌, arith}
use Rattle.lines.proofs.Overwrites.{wrote_then}
use Rattle.balance.proofs.Clears.{clearing_more}
use Rattle.balance.proofs.write.write_break.Goals as goal

pub loop-cleared-preserved : goal.loop-cleared-preserved
loop-cleared-preserved c =
    wrote_then (omega arith) c.loop-cleared.invariant c.write-in-loop-cleared.ensures
    (grind (arith, clearing_more c.args.body (c.loop-cleared.cleared - c.args.body)))
