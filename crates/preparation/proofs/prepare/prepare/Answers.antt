use Rattle.std.proofs.Common.{length, sym}
use Rattle.std.proofs.lemmas.Result.{err_from_is_err_and}
use Rattle.preparation.proofs.Explained.{answer_explained}
use Rattle.preparation.proofs.prepare.prepare.Goals as goal

pub returns-in_err-rule_lines-clause-explained : goal.returns-in_err-rule_lines-clause-explained
returns-in_err-rule_lines-clause-explained c =
    let p = err_from_is_err_and c.from_residual.result c.from_residual.ensures.1 in
    rw (p.1, p.2) (answer_explained c.args.text.now (length c.args.rule.now) _ (sym c.in_err-rule_lines.ensures.answer))
