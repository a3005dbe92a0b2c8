-- The line words.
use Rattle.std.specs.Prelude.{ℕ, cond, List, Some, None, codes, Option}
use Rattle.std.specs.Option.{option_map}
use Rattle.std.specs.Str.{bytes_eq}
use Rattle.lines.specs.declared.field.Field.{Field}
use Rattle.lines.specs.declared.operation.Operation.{Operation}
use Rattle.lines.specs.declared.operation.Operation.TheVariants as op
use Rattle.text.specs.declared.keyword.Binary.{Binary}
use Rattle.text.specs.declared.keyword.Binary.TheVariants as binary
use Rattle.text.specs.declared.keyword.Keyword.{Keyword}
use Rattle.text.specs.declared.keyword.Keyword.TheVariants as key

-- What the bytes give if they are the first word, and else what comes next.
abbrev pub spelt : {A : Type 0} → List ℕ → List ℕ → A → Option A → Option A
spelt bs word a next = cond (bytes_eq bs word) (Some a) next

-- The line words of the operations with two operands.
abbrev pub binary_of : List ℕ → Option Binary
binary_of bs =
    spelt bs (codes "add") binary.Add
    (spelt bs (codes "sub") binary.Sub
    (spelt bs (codes "mul") binary.Mul
    (spelt bs (codes "and") binary.And
    (spelt bs (codes "or") binary.Or
    (spelt bs (codes "xor") binary.Xor
    (spelt bs (codes "same") binary.Same
    (spelt bs (codes "less") binary.Less None)))))))

-- All line words.
abbrev pub keyword_of : List ℕ → Option Keyword
keyword_of bs =
    spelt bs (codes "word") key.Word
    (spelt bs (codes "copy") key.Copy
    (spelt bs (codes "not") key.Not
    (spelt bs (codes "if") key.If
    (spelt bs (codes "else") key.Else
    (spelt bs (codes "end") key.End
    (spelt bs (codes "loop") key.Loop
    (spelt bs (codes "break") key.Break
    (spelt bs (codes "turn") key.Turn (option_map key.Binary (binary_of bs))))))))))

-- The operation that a line word names, into d from a and b.
abbrev pub applied : Binary → Field → Field → Field → Operation
applied binary.Add d a b = op.Add d a b
applied binary.Sub d a b = op.Sub d a b
applied binary.Mul d a b = op.Mul d a b
applied binary.And d a b = op.And d a b
applied binary.Or d a b = op.Or d a b
applied binary.Xor d a b = op.Xor d a b
applied binary.Same d a b = op.Same d a b
applied binary.Less d a b = op.Less d a b
