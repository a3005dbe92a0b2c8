-- The numbers, places and sentences of the reader's refusals.
use Rattle.std.specs.Prelude.{ℕ, List, codes}
use Rattle.text.specs.declared.fault.ReadFault.{ReadFault}
use Rattle.text.specs.declared.fault.ReadFault.TheVariants as fault

-- The number of each refusal: 1 for the whole text, 2 for the first token of a line, 3 for its operands, 4 for a good line without room.
abbrev pub read_number : ReadFault → ℕ
read_number fault.TextTooLong = 1
read_number (fault.NoLineWord line) = 2
read_number (fault.MissingOperand line) = 3
read_number (fault.BadOperand line) = 3
read_number (fault.ExtraToken line) = 3
read_number (fault.TooManyLines line) = 4

-- The place of each refusal: the text line, or 0 for the whole text.
abbrev pub read_place : ReadFault → ℕ
read_place fault.TextTooLong = 0
read_place (fault.NoLineWord line) = line
read_place (fault.MissingOperand line) = line
read_place (fault.BadOperand line) = line
read_place (fault.ExtraToken line) = line
read_place (fault.TooManyLines line) = line

-- What is wrong with a text that is not read, in a sentence.
abbrev pub read_sentence : ReadFault → List ℕ
read_sentence fault.TextTooLong = codes "the text has more than 65,536 bytes"
read_sentence (fault.NoLineWord line) = codes "the line does not begin with a line word"
read_sentence (fault.MissingOperand line) = codes "an operand is missing"
read_sentence (fault.BadOperand line) = codes "an operand is not what the line word asks for, is malformed or is too large"
read_sentence (fault.ExtraToken line) = codes "there is a token too many"
read_sentence (fault.TooManyLines line) = codes "the table has no room for this line"
