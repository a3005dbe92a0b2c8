-- The table that a rule text writes, up to its first fault.
use Rattle.std.specs.Prelude.{ℕ, ◌+◌, ◌-◌, min, cond, List, [], ◌∷◌, ◌++◌, length, drop, Some, None, Ok, Err, Option, Result, ◌==◌, nat_lt}
use Rattle.std.specs.List.{slice_get}
use Rattle.lines.specs.declared.line.Line.{Line}
use Rattle.text.specs.Meanings.{meanings}
use Rattle.text.specs.Operands.{line_read}
use Rattle.text.specs.TextLines.{has_end, next_line, text_lines}
use Rattle.text.specs.Tokens.{tokens, some_token}
use Rattle.text.specs.declared.fault.ReadFault.{ReadFault}
use Rattle.text.specs.declared.fault.ReadFault.TheVariants as fault
use Rattle.text.specs.declared.reader.Reader.{Reader}

-- What reading gives: the lines before the first fault, and the fault, if there is one.
pub record Reading : Type 0 where
  pub lines : List Line
  pub fault : Option ReadFault

-- A fault before any line.
abbrev pub refused : ReadFault → Reading
refused e = record { lines = []; fault = Some e }

-- A line before the others.
abbrev pub preceded : Line → Reading → Reading
preceded x r = record { lines = x ∷ r.lines; fault = r.fault }

-- What text line n gives: its fault; nothing, if it has no token; or a line, if there is room for one more. The rest is read with the room that is left.
abbrev pub entered : ℕ → ℕ → Result (Option Line) ReadFault → (ℕ → Reading) → Reading
entered room n (Err e) rest = refused e
entered room n (Ok None) rest = rest room
entered room n (Ok (Some x)) rest = cond (room == 0) (refused (fault.TooManyLines n)) (preceded x (rest (room - 1)))

-- Text lines, of which the first has the number n, read into a table with room for so many lines.
abbrev pub read_lines : ℕ → ℕ → List (List ℕ) → Reading
read_lines room n [] = record { lines = []; fault = None }
read_lines room n (l ∷ ls) = entered room n (line_read n (meanings (tokens 0 l))) (λ left. read_lines left (n + 1) ls)

-- A text of at most 65,536 bytes, read into a table of so many entries. At most 2,400 lines are read.
abbrev pub reading : List ℕ → ℕ → Reading
reading text entries = cond (nat_lt 65536 (length text)) (refused fault.TextTooLong) (read_lines (min entries 2400) 1 (text_lines text))

-- The fault, or else a count.
abbrev pub answered : Option ReadFault → ℕ → Result ℕ ReadFault
answered None n = Ok n
answered (Some e) n = Err e

-- The answer: the fault, or how many lines were read.
abbrev pub answer : Reading → Result ℕ ReadFault
answer r = answered r.fault (length r.lines)

-- The table afterwards: the lines read, and then what it held before.
abbrev pub filled : Reading → List Line → List Line
filled r table = r.lines ++ drop (length r.lines) table

-- The numbers of the text lines that have a token, of which the first has the number n.
abbrev pub token_lines : ℕ → List (List ℕ) → List ℕ
token_lines n [] = []
token_lines n (l ∷ ls) = cond (some_token (tokens 0 l)) (n ∷ token_lines (n + 1) ls) (token_lines (n + 1) ls)

-- The number of the text line that writes table line k, counted from 0: each text line with a token writes one.
abbrev pub written_by : List ℕ → ℕ → Option ℕ
written_by text k = slice_get (token_lines 1 (text_lines text)) k

-- The lines that a reader still has, from its place on.
abbrev pub lines_left : Reader → List (List ℕ)
lines_left r = text_lines (drop r.at r.text.now)

-- What they give, read into a table with room for so many lines.
abbrev pub unread : ℕ → Reader → Reading
unread room r = read_lines room r.number (lines_left r)

-- What the lines behind the one that the reader is in give.
abbrev pub unread_behind : ℕ → Reader → Reading
unread_behind room r = read_lines room (cond (has_end r.text.now r.at) (r.number + 1) r.number) (text_lines (drop (next_line r.text.now r.at) r.text.now))

-- What lines give from the first of them on that writes a line, where this line and its number are found, and else a fault or nothing.
abbrev pub taken : ℕ → Result (Option (ℕ × Line)) ReadFault → (ℕ → Reading) → Reading
taken room (Err e) rest = refused e
taken room (Ok None) rest = record { lines = []; fault = None }
taken room (Ok (Some p)) rest = entered room p.0 (Ok (Some p.1)) rest
