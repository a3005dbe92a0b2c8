use Rattle.std.proofs.Common.{arith}
use Rattle.text.proofs.Filling.{filling, entered_kept, entered_gives}
use Rattle.text.proofs.table.read.Goals as goal

pub loop-count-preserved : goal.loop-count-preserved
loop-count-preserved c =
    let l = c.loop-count in
    grind (arith, filling, entered_kept c.args.table.now l.slots c.min-room.result l.count, entered_gives l.slots c.min-room.result l.count l.reader c.next_entry.new.self)
