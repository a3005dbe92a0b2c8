use Rattle.std.proofs.Common.{◌≡◌, ◌-◌, ◌++◌, length, take, drop}
use Rattle.text.specs.Reading.{reading, unread}
use Rattle.text.proofs.Filling.{after}
use Rattle.text.proofs.table.read.Given as goal

abbrev pub invariant-loop-count : goal.invariant-loop-count
invariant-loop-count l = record {
  gives : after (take l.count l.slots) (unread (l.room - l.count) l.reader) ≡ reading l.text (length l.fn.table);
  kept : l.slots ++ drop l.room l.fn.table ≡ take l.count l.slots ++ drop l.count l.fn.table;
}
