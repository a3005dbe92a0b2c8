use Rattle.std.proofs.Common.{◌++◌, get_or, refl, append_assoc, arith}
use Rattle.std.proofs.lemmas.List.{drop_more}
use Rattle.std.proofs.ByRecursion.{All-more}
use Rattle.lines.specs.Sizes.{OperationShort}
use Rattle.lines.specs.declared.line.Line.TheVariants as line
use Rattle.lines.proofs.Overwrites.{wrote_then}
use Rattle.nesting.specs.Levels.{opens}
use Rattle.balance.specs.Writing.{written, pass}
use Rattle.balance.proofs.Passed.{passing}
use Rattle.balance.proofs.balance.write_lines.Goals as goal

pub loop-line-preserved : goal.loop-line-preserved
unfolding pass
loop-line-preserved c =
    let i = c.loop-line.line-index in
    let xs = c.args.lines.now in
    let w = c.loop-line.invariant.wrote in
    record {
      nested = grind (arith, passing);
      wrote = (
        w.0 ++ written (opens c.loop-line.stack) (get_or xs i line.End),
        wrote_then (omega arith) w.1 c.write_line.ensures.wrote refl,
        grind (arith, append_assoc, drop_more xs i line.End),
      );
      short = All-more OperationShort xs i line.End (omega arith) c.loop-line.invariant.short c.write_line.ensures.short;
    }
