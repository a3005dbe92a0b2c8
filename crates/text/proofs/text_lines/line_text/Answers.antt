use Rattle.std.proofs.Common.{◌≡◌, arith}
use Rattle.std.proofs.lemmas.Iterator.Consumers.{YieldsList-from_first, nth_from_yields_List}
use Rattle.text.specs.Reading.{lines_left}
use Rattle.text.specs.TextLines.{held, numbered_line, text_lines}
use Rattle.text.specs.declared.text_lines.Lines.{Lines}
use Rattle.text.proofs.LinesOf.{lines_of, line_part}
use Rattle.text.proofs.text_lines.line_text.Goals as goal

pub returns-in_err-before-clause-lines : goal.returns-in_err-before-clause-lines
returns-in_err-before-clause-lines c = lines_of c.args.text.now

pub returns : goal.returns
returns c =
    let text = c.args.text.now in
    let s : Lines = record { 0 = c.new.result } in
    let e = nth_from_yields_List c.nth.result c.nth.new.self _ c.nth.ensures.ran (YieldsList-from_first (λ part. part.now) (λ (t : Lines). lines_left t.0) {s = s} (text_lines text) (grind arith)) in
    let v : held c.nth.result ≡ numbered_line text c.args.number = grind (arith, e, c.in_ok-before.ensures) in
    record { value = v; part = line_part text c.args.number _ v; lines = lines_of text }
