-- The parts of an operation line.
use Rattle.std.specs.Prelude.{ℕ, Bool, ◌&&◌, nat_lt}
use Rattle.lines.specs.declared.field.Field.{Field}
use Rattle.lines.specs.declared.operation.Operation.{Operation}
use Rattle.lines.specs.declared.operation.Operation.TheVariants as op

-- The field that an operation writes.
abbrev pub destination : Operation → Field
destination (op.Word d n) = d
destination (op.Copy d a) = d
destination (op.Not d a) = d
destination (op.Add d a b) = d
destination (op.Sub d a b) = d
destination (op.Mul d a b) = d
destination (op.And d a b) = d
destination (op.Or d a b) = d
destination (op.Xor d a b) = d
destination (op.Same d a b) = d
destination (op.Less d a b) = d

-- The same operation, its result put into the field x.
abbrev pub into : Operation → Field → Operation
into (op.Word d n) x = op.Word x n
into (op.Copy d a) x = op.Copy x a
into (op.Not d a) x = op.Not x a
into (op.Add d a b) x = op.Add x a b
into (op.Sub d a b) x = op.Sub x a b
into (op.Mul d a b) x = op.Mul x a b
into (op.And d a b) x = op.And x a b
into (op.Or d a b) x = op.Or x a b
into (op.Xor d a b) x = op.Xor x a b
into (op.Same d a b) x = op.Same x a b
into (op.Less d a b) x = op.Less x a b

-- The number in an operation, or 0 where it has none.
abbrev pub immediate : Operation → ℕ
immediate (op.Word d n) = n
immediate (op.Copy d a) = 0
immediate (op.Not d a) = 0
immediate (op.Add d a b) = 0
immediate (op.Sub d a b) = 0
immediate (op.Mul d a b) = 0
immediate (op.And d a b) = 0
immediate (op.Or d a b) = 0
immediate (op.Xor d a b) = 0
immediate (op.Same d a b) = 0
immediate (op.Less d a b) = 0

-- Whether the field is one of the first n.
abbrev pub under : ℕ → Field → Bool
under n f = nat_lt f.0 n

-- Whether three fields are.
abbrev pub under3 : ℕ → Field → Field → Field → Bool
under3 n d a b = under n d && (under n a && under n b)

-- Whether each field of an operation is one of the first n.
abbrev pub within : ℕ → Operation → Bool
within n (op.Word d k) = under n d
within n (op.Copy d a) = under n d && under n a
within n (op.Not d a) = under n d && under n a
within n (op.Add d a b) = under3 n d a b
within n (op.Sub d a b) = under3 n d a b
within n (op.Mul d a b) = under3 n d a b
within n (op.And d a b) = under3 n d a b
within n (op.Or d a b) = under3 n d a b
within n (op.Xor d a b) = under3 n d a b
within n (op.Same d a b) = under3 n d a b
within n (op.Less d a b) = under3 n d a b
