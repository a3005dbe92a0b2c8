use Rattle.std.proofs.Common.{◌≡◌, List, [], ◌++◌, take, drop, None}
use Rattle.std.specs.List.{AllByRecursion}
use Rattle.lines.specs.Sizes.{OperationShort}
use Rattle.lines.specs.Overwrites.{Wrote}
use Rattle.lines.specs.declared.line.Line.{Line}
use Rattle.nesting.specs.Levels.{opens}
use Rattle.rules.specs.Checks.{nesting_fault}
use Rattle.balance.specs.Writing.{beginning, pass}
use Rattle.balance.proofs.balance.write_lines.Given as goal

abbrev pub invariant-loop-line : goal.invariant-loop-line
invariant-loop-line l = record {
  nested : nesting_fault l.line-index (opens l.stack) (drop l.line-index l.lines) ≡ None;
  wrote : (front : List Line) × Wrote l.fn.out front l.out × (front ++ pass (opens l.stack) (drop l.line-index l.lines) ≡ beginning ++ pass [] l.lines);
  short : AllByRecursion OperationShort (take l.line-index l.lines);
}
