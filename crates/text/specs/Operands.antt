-- The line that the tokens of a text line write, or what is wrong with them.
use Rattle.std.specs.Prelude.{◌≡◌, ℕ, List, [], ◌∷◌, Some, None, Ok, Err, Option, Result}
use Rattle.std.specs.Option.{ok_or}
use Rattle.lines.specs.declared.field.Field.{Field}
use Rattle.lines.specs.declared.line.Line.{Line}
use Rattle.lines.specs.declared.line.Line.TheVariants as line
use Rattle.lines.specs.declared.operation.Operation.TheVariants as op
use Rattle.text.specs.Keywords.{applied}
use Rattle.text.specs.Meanings.{Meaning, as_word, as_field, as_number, meanings}
use Rattle.text.specs.TextLines.{next_line}
use Rattle.text.specs.Tokens.{rest_of, tokens_at}
use Rattle.text.specs.declared.fault.ReadFault.{ReadFault}
use Rattle.text.specs.declared.fault.ReadFault.TheVariants as fault
use Rattle.text.specs.declared.keyword.Keyword.{Keyword}
use Rattle.text.specs.declared.keyword.Keyword.TheVariants as key
use Rattle.text.specs.declared.reader.Reader.{Reader}

-- What follows a result that is no fault.
abbrev pub and_then : {A B : Type 0} → Result A ReadFault → (A → Result B ReadFault) → Result B ReadFault
and_then (Ok a) next = next a
and_then (Err e) next = Err e

-- In all that follows n is the number of the text line, and a kind gives the operand that a meaning is, if it is one of that kind. The first token has to be an operand.
abbrev pub operand : {A : Type 0} → (Meaning → Option A) → ℕ → List Meaning → Result A ReadFault
operand kind n [] = Err (fault.MissingOperand n)
operand kind n (m ∷ ms) = ok_or (kind m) (fault.BadOperand n)

-- No token may be left.
abbrev pub no_more : ℕ → List Meaning → Result (Unit {0}) ReadFault
no_more n [] = Ok tt
no_more n (m ∷ ms) = Err (fault.ExtraToken n)

-- One operand and nothing else.
abbrev pub last : {A : Type 0} → (Meaning → Option A) → ℕ → List Meaning → Result A ReadFault
last kind n ms = and_then (operand kind n ms) (λ a. and_then (no_more n (rest_of ms)) (λ _. Ok a))

-- Two operands and nothing else.
abbrev pub two : {A B : Type 0} → (Meaning → Option A) → (Meaning → Option B) → ℕ → List Meaning → Result (A × B) ReadFault
two first second n ms = and_then (operand first n ms) (λ a. and_then (last second n (rest_of ms)) (λ b. Ok (a, b)))

-- Three operands and nothing else.
abbrev pub three : {A B C : Type 0} → (Meaning → Option A) → (Meaning → Option B) → (Meaning → Option C) → ℕ → List Meaning → Result (A × B × C) ReadFault
three first second third n ms = and_then (operand first n ms) (λ a. and_then (two second third n (rest_of ms)) (λ p. Ok (a, p.0, p.1)))

-- The first token has to be a field.
abbrev pub field_first : ℕ → List Meaning → Result Field ReadFault
field_first n ms = operand as_field n ms

-- The first token has to be a number.
abbrev pub number_first : ℕ → List Meaning → Result ℕ ReadFault
number_first n ms = operand as_number n ms

-- One field and nothing else.
abbrev pub one_field : ℕ → List Meaning → Result Field ReadFault
one_field n ms = last as_field n ms

-- Two fields and nothing else.
abbrev pub two_fields : ℕ → List Meaning → Result (Field × Field) ReadFault
two_fields n ms = two as_field as_field n ms

-- Three fields and nothing else.
abbrev pub three_fields : ℕ → List Meaning → Result (Field × Field × Field) ReadFault
three_fields n ms = three as_field as_field as_field n ms

-- A number and nothing else.
abbrev pub one_number : ℕ → List Meaning → Result ℕ ReadFault
one_number n ms = last as_number n ms

-- A field, a number and nothing else.
abbrev pub field_and_number : ℕ → List Meaning → Result (Field × ℕ) ReadFault
field_and_number n ms = two as_field as_number n ms

-- A line whose line word stands alone.
abbrev pub alone : ℕ → Line → List Meaning → Result Line ReadFault
alone n x ms = and_then (no_more n ms) (λ _. Ok x)

-- The line of a line word and the operands after it.
abbrev pub line_of : ℕ → Keyword → List Meaning → Result Line ReadFault
line_of n key.Word ms = and_then (field_and_number n ms) (λ p. Ok (line.Operation (op.Word p.0 p.1)))
line_of n key.Copy ms = and_then (two_fields n ms) (λ p. Ok (line.Operation (op.Copy p.0 p.1)))
line_of n key.Not ms = and_then (two_fields n ms) (λ p. Ok (line.Operation (op.Not p.0 p.1)))
line_of n (key.Binary k) ms = and_then (three_fields n ms) (λ p. Ok (line.Operation (applied k p.0 p.1 p.2)))
line_of n key.If ms = and_then (one_field n ms) (λ a. Ok (line.If a))
line_of n key.Else ms = alone n line.Else ms
line_of n key.End ms = alone n line.End ms
line_of n key.Loop ms = and_then (field_and_number n ms) (λ p. Ok (line.Loop p.0 p.1))
line_of n key.Break ms = alone n line.Break ms
line_of n key.Turn ms = and_then (field_and_number n ms) (λ p. Ok (line.Turn p.0 p.1))

-- The line that the tokens of a text line write, the first of which has to be a line word. Without tokens there is none.
abbrev pub line_read : ℕ → List Meaning → Result (Option Line) ReadFault
line_read n [] = Ok None
line_read n (m ∷ ms) = and_then (ok_or (as_word m) (fault.NoLineWord n)) (λ k. and_then (line_of n k ms) (λ x. Ok (Some x)))

-- What the tokens mean that a reader still has on its line.
abbrev pub left : Reader → List Meaning
left r = meanings (tokens_at r.text.now r.at)

-- A reader that went on within its line: it has the same text, its line has the same number, and the same line comes next.
pub record SameLine (r s : Reader) : Type 0 where
  pub text : s.text.now ≡ r.text.now
  pub number : s.number ≡ r.number
  pub next : next_line r.text.now s.at ≡ next_line r.text.now r.at
