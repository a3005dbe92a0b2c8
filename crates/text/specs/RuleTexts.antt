-- Which texts write which tables, and what reading has to do with it.
use Rattle.std.specs.Prelude.{◌≡◌, ℕ, ◌≤◌, cond, List, [], ◌∷◌, map, length, Some, None}
use Rattle.std.specs.List.{slice_get}
use Rattle.lines.specs.declared.line.Line.{Line}
use Rattle.lines.specs.declared.line.Line.TheVariants as line
use Rattle.lines.specs.declared.operation.Operation.{Operation}
use Rattle.lines.specs.declared.operation.Operation.TheVariants as op
use Rattle.text.specs.Meanings.{Meaning, word, field, number, meanings}
use Rattle.text.specs.TextLines.{text_lines, numbered_line}
use Rattle.text.specs.Tokens.{tokens, some_token}
use Rattle.text.specs.declared.keyword.Binary.TheVariants as binary
use Rattle.text.specs.declared.keyword.Keyword.TheVariants as key
use Rattle.text.specs.Reading.{reading, written_by}

-- The tokens that write an operation: its name, the field that it goes to, and what it is computed from.
abbrev pub operation_tokens : Operation → List Meaning
operation_tokens (op.Word d n) = word key.Word ∷ field d ∷ number n ∷ []
operation_tokens (op.Copy d a) = word key.Copy ∷ field d ∷ field a ∷ []
operation_tokens (op.Not d a) = word key.Not ∷ field d ∷ field a ∷ []
operation_tokens (op.Add d a b) = word (key.Binary binary.Add) ∷ field d ∷ field a ∷ field b ∷ []
operation_tokens (op.Sub d a b) = word (key.Binary binary.Sub) ∷ field d ∷ field a ∷ field b ∷ []
operation_tokens (op.Mul d a b) = word (key.Binary binary.Mul) ∷ field d ∷ field a ∷ field b ∷ []
operation_tokens (op.And d a b) = word (key.Binary binary.And) ∷ field d ∷ field a ∷ field b ∷ []
operation_tokens (op.Or d a b) = word (key.Binary binary.Or) ∷ field d ∷ field a ∷ field b ∷ []
operation_tokens (op.Xor d a b) = word (key.Binary binary.Xor) ∷ field d ∷ field a ∷ field b ∷ []
operation_tokens (op.Same d a b) = word (key.Binary binary.Same) ∷ field d ∷ field a ∷ field b ∷ []
operation_tokens (op.Less d a b) = word (key.Binary binary.Less) ∷ field d ∷ field a ∷ field b ∷ []

-- The tokens that write a line.
abbrev pub line_tokens : Line → List Meaning
line_tokens line.End = word key.End ∷ []
line_tokens line.Else = word key.Else ∷ []
line_tokens line.Break = word key.Break ∷ []
line_tokens (line.Operation o) = operation_tokens o
line_tokens (line.If a) = word key.If ∷ field a ∷ []
line_tokens (line.Loop i n) = word key.Loop ∷ field i ∷ number n ∷ []
line_tokens (line.Turn i n) = word key.Turn ∷ field i ∷ number n ∷ []

-- What the tokens mean of each text line that has any.
abbrev pub tokenized : List (List ℕ) → List (List Meaning)
tokenized [] = []
tokenized (l ∷ ls) = cond (some_token (tokens 0 l)) (meanings (tokens 0 l) ∷ tokenized ls) (tokenized ls)

-- A text writes a table if its lines with tokens have those of the table's lines, one for one, and it has at most 65,536 bytes and the table at most 2,400 lines.
pub record Writes (text : List ℕ) (table : List Line) : Type 0 where
  pub short : length text ≤ 65536
  pub few : length table ≤ 2400
  pub lines : tokenized (text_lines text) ≡ map line_tokens table

-- Into a table of so many entries, exactly the texts that write one of no more lines are read without a fault, and give that table.
pub record AcceptsExactly (text : List ℕ) (entries : ℕ) : Type 0 where
  pub sound : (table : List Line) → reading text entries ≡ record { lines = table; fault = None } → Writes text table × (length table ≤ entries)
  pub complete : (table : List Line) → Writes text table → length table ≤ entries → reading text entries ≡ record { lines = table; fault = None }

-- Table line k of what was read is x: the text line of that number, which writes table line k, has the tokens of x.
pub record ReadFrom (text : List ℕ) (k : ℕ) (x : Line) : Type 0 where
  pub number : ℕ
  pub line : List ℕ
  pub found : written_by text k ≡ Some number
  pub there : numbered_line text number ≡ Some line
  pub writes : meanings (tokens 0 line) ≡ line_tokens x

-- This holds of each line that is read into a table, however many entries it has, and also where a later line is refused.
abbrev pub ReadFromText : List ℕ → ℕ → Type 0
ReadFromText text k = (entries : ℕ) (x : Line) → slice_get (reading text entries).lines k ≡ Some x → ReadFrom text k x
