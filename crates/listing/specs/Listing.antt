-- The text of a table: a text line for each of its lines.
use Rattle.std.specs.Prelude.{ℕ, List, [], ◌∷◌, ◌++◌, codes, decimal}
use Rattle.std.specs.List.{flat_map}
use Rattle.lines.specs.declared.field.Field.{Field}
use Rattle.lines.specs.declared.operation.Operation.{Operation}
use Rattle.lines.specs.declared.operation.Operation.TheVariants as op
use Rattle.lines.specs.declared.line.Line.{Line}
use Rattle.lines.specs.declared.line.Line.TheVariants as line

-- A field is written as `f` and its number.
abbrev pub field_word : Field → List ℕ
field_word f = codes "f" ++ decimal f.0

-- The words of an operation: its name, the field that it writes, and what it computes from.
abbrev pub operation_words : Operation → List (List ℕ)
operation_words (op.Word d n) = codes "word" ∷ field_word d ∷ decimal n ∷ []
operation_words (op.Copy d a) = codes "copy" ∷ field_word d ∷ field_word a ∷ []
operation_words (op.Not d a) = codes "not" ∷ field_word d ∷ field_word a ∷ []
operation_words (op.Add d a b) = codes "add" ∷ field_word d ∷ field_word a ∷ field_word b ∷ []
operation_words (op.Sub d a b) = codes "sub" ∷ field_word d ∷ field_word a ∷ field_word b ∷ []
operation_words (op.Mul d a b) = codes "mul" ∷ field_word d ∷ field_word a ∷ field_word b ∷ []
operation_words (op.And d a b) = codes "and" ∷ field_word d ∷ field_word a ∷ field_word b ∷ []
operation_words (op.Or d a b) = codes "or" ∷ field_word d ∷ field_word a ∷ field_word b ∷ []
operation_words (op.Xor d a b) = codes "xor" ∷ field_word d ∷ field_word a ∷ field_word b ∷ []
operation_words (op.Same d a b) = codes "same" ∷ field_word d ∷ field_word a ∷ field_word b ∷ []
operation_words (op.Less d a b) = codes "less" ∷ field_word d ∷ field_word a ∷ field_word b ∷ []

-- The words of a line.
abbrev pub line_words : Line → List (List ℕ)
line_words line.End = codes "end" ∷ []
line_words line.Else = codes "else" ∷ []
line_words line.Break = codes "break" ∷ []
line_words (line.Operation o) = operation_words o
line_words (line.If a) = codes "if" ∷ field_word a ∷ []
line_words (line.Loop i n) = codes "loop" ∷ field_word i ∷ decimal n ∷ []
line_words (line.Turn i n) = codes "turn" ∷ field_word i ∷ decimal n ∷ []

-- A word with the space before it.
abbrev pub spaced_word : List ℕ → List ℕ
spaced_word w = codes " " ++ w

-- Words with single spaces between them.
abbrev pub spaced : List (List ℕ) → List ℕ
spaced [] = []
spaced (w ∷ ws) = w ++ flat_map spaced_word ws

-- The bytes of a line: its words, and the byte 10 that ends it.
abbrev pub line_bytes : Line → List ℕ
line_bytes l = spaced (line_words l) ++ 10 ∷ []

-- The listing of a table: the bytes of its lines, one after the other.
abbrev pub listing : List Line → List ℕ
listing table = flat_map line_bytes table
