use Rattle.std.proofs.Common.{◌≡◌, ◌+◌, drop, length}
use Rattle.lines.specs.Overwrites.{overwrite}
use Rattle.lines.proofs.writer.Writer.write.Given as goal

-- the items that are left go behind those that are written
abbrev pub invariant-loop-i : goal.invariant-loop-i
invariant-loop-i g l =
    (l.slice.ghost_name ≡ l.initial.slice.ghost_name)
    × (length l.slice.now ≡ length l.initial.slice.now)
    × (overwrite l.slice.now (l.count + l.i) (drop l.i l.items) ≡ overwrite l.initial.slice.now l.count l.items)
