use Rattle.std.proofs.Common.{◌-◌, ◌∷◌}
use Rattle.lines.specs.Overwrites.{Wrote}
use Rattle.lines.specs.declared.operation.Operation.TheVariants as op
use Rattle.balance.specs.Fields.{f, mask}
use Rattle.balance.specs.Writing.{doing, clearing}
use Rattle.balance.proofs.write.write_break.Given as goal

abbrev pub invariant-loop-cleared : goal.invariant-loop-cleared
invariant-loop-cleared l = Wrote l.fn.out (doing (op.Not (f 66) (mask l.fn.level.depth)) ∷ clearing l.body (l.cleared - l.body)) l.out
