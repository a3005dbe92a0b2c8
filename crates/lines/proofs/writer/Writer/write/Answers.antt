use Rattle.std.proofs.Common.{◌+◌, arith}
use Rattle.std.proofs.lemmas.List.{length-set, set_past}
use Rattle.lines.proofs.Overwrites.{overwrite_more, overwrite_all}
use Rattle.lines.proofs.writer.Writer.write.Goals as goal
use Rattle.lines.proofs.writer.Writer.write.Goals.{then-i-fits, else-i-fits}

pub loop-i-preserved : goal.loop-i-preserved
loop-i-preserved g c =
    let at = c.args.self.now.count + c.loop-i.i in
    let more = overwrite_more c.loop-i.slice.now at c.args.items.now c.loop-i.i c.index-items-i.result (omega (arith, c.loop-i-test.true)) in
    elim c.if-i-fits.branch [
      | then-i-fits w ↦ grind (arith, length-set c.loop-i.slice.now at c.index-items-i.result)
      | else-i-fits w ↦ grind (arith, set_past)
    ]

pub returns : goal.returns
returns g c =
    let all = overwrite_all c.loop-i.slice.now (c.args.self.now.count + c.loop-i.i) c.args.items.now c.loop-i.i (omega (arith, c.loop-i-test.false)) in
    grind arith
