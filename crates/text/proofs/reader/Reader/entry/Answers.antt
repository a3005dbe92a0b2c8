use Rattle.std.proofs.Common.{None, Some, Ok, arith}
use Rattle.std.proofs.lemmas.Bool.Decides.{nat_tests}
use Rattle.text.proofs.Unread.{unread_entry, unread_more}
use Rattle.text.proofs.reader.Reader.entry.Goals as goal

pub returns-in-Some : goal.returns-in-Some
returns-in-Some c = λ room. grind (arith, nat_tests, c.loop-self.invariant room, unread_entry c.loop-self.self c.line.new.self room (Ok (Some c.in-Some.line)))

pub loop-self-preserved : goal.loop-self-preserved
loop-self-preserved c = λ room. grind (arith, nat_tests, c.loop-self.invariant room, unread_more c.loop-self.self c.line.new.self c.next_line.new.self room (Ok None))
