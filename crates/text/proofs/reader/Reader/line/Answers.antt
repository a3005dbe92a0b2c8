use Rattle.std.proofs.Common.{arith}
use Rattle.std.proofs.lemmas.Result.{err_from_is_err_and}
use Rattle.text.specs.Meanings.{seen}
use Rattle.text.proofs.Taking.{taking, line_done}
use Rattle.text.proofs.reader.Reader.line.Goals as goal

pub returns-in_err-line_of-clause-value : goal.returns-in_err-line_of-clause-value
returns-in_err-line_of-clause-value c = grind (arith, taking, err_from_is_err_and c.from_residual-in_err-line_of.result c.from_residual-in_err-line_of.ensures.1, line_done c.args.self.now c.next_token.new.self (seen c.in-Some.token).means c.in_ok-keyword.keyword)

pub returns-clause-value : goal.returns-clause-value
returns-clause-value c = grind (arith, taking, line_done c.args.self.now c.next_token.new.self (seen c.in-Some.token).means c.in_ok-keyword.keyword)
