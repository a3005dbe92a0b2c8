use Rattle.std.proofs.Common.{◌≡◌, drop}
use Rattle.nesting.specs.Passes.{passed}
use Rattle.nesting.proofs.pass.pass_over.Given as goal

abbrev pub invariant-loop-at : goal.invariant-loop-at
invariant-loop-at g l = passed g.P.Pass.step g.P.Pass.ending l.at l.pass (drop l.at l.lines) ≡ passed g.P.Pass.step g.P.Pass.ending 0 l.fn.start l.lines
