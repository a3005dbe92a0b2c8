-- Balancing in one pass: what is written for each line of a rule, inside the lines open around it.
use Rattle.std.specs.Prelude.{ℕ, zero, suc, ◌+◌, ◌-◌, List, [], ◌∷◌, ◌++◌, length}
use Rattle.lines.specs.Operations.{destination, into}
use Rattle.lines.specs.declared.field.Field.{Field}
use Rattle.lines.specs.declared.operation.Operation.{Operation}
use Rattle.lines.specs.declared.operation.Operation.TheVariants as op
use Rattle.lines.specs.declared.line.Line.{Line}
use Rattle.lines.specs.declared.line.Line.TheVariants as line
use Rattle.nesting.specs.declared.open.Open.{Open}
use Rattle.nesting.specs.declared.open.Open.TheVariants as open_is
use Rattle.nesting.specs.Nesting.{below}
use Rattle.nesting.specs.Levels.{loop_level}
use Rattle.rules.specs.Checks.{after}
use Rattle.balance.specs.Fields.{f, mask, choice, saved}

-- A line that does an operation.
abbrev pub doing : Operation → Line
doing o = line.Operation o

-- The clearing of n masks from level r on.
abbrev pub clearing : ℕ → ℕ → List Line
clearing r zero = []
clearing r (suc n) = doing (op.And (mask r) (mask r) (f 66)) ∷ clearing (r + 1) n

-- The end of an open line at level k.
abbrev pub ending : Open → ℕ → List Line
ending open_is.Then k = []
ending open_is.Else k = []
ending (open_is.Loop i n) k = line.End ∷ (doing (op.Copy i (saved (k + 1))) ∷ [])

-- The end of the innermost open line, if there is one.
abbrev pub ending_of : List Open → List Line
ending_of [] = []
ending_of (o ∷ st) = ending o (length st)

-- The five lines of an operation at level k.
abbrev pub operating : ℕ → Operation → List Line
operating k o =
    doing (into o (f 66)) ∷ (doing (op.And (f 66) (f 66) (mask k)) ∷ (doing (op.Not (f 67) (mask k)) ∷ (doing (op.And (f 67) (f 67) (destination o)) ∷ (doing (op.Or (destination o) (f 66) (f 67)) ∷ []))))

-- The lines of an `if` at level k.
abbrev pub choosing : ℕ → Field → List Line
choosing k a = doing (op.Same (f 66) a (f 64)) ∷ (doing (op.Sub (choice (k + 1)) (f 66) (f 65)) ∷ (doing (op.And (mask (k + 1)) (mask k) (choice (k + 1))) ∷ []))

-- The lines of the `else` of an `if` at level k.
abbrev pub turning : ℕ → List Line
turning k = doing (op.Not (f 66) (choice (k + 1))) ∷ (doing (op.And (mask (k + 1)) (mask k) (f 66)) ∷ [])

-- The lines of a loop at level k.
abbrev pub looping : ℕ → Field → ℕ → List Line
looping k i n = doing (op.Copy (saved (k + 1)) i) ∷ (doing (op.Copy (mask (k + 1)) (mask k)) ∷ (line.Turn i n ∷ []))

-- The lines of a `break` at level k, where the innermost loop's body has level j.
abbrev pub breaking : ℕ → ℕ → List Line
breaking k j = doing (op.Not (f 66) (mask k)) ∷ clearing j (k + 1 - j)

-- What is written for a line inside the open lines st, the innermost first.
abbrev pub written : List Open → Line → List Line
written st (line.Operation o) = operating (length st) o
written st (line.If a) = choosing (length st) a
written st line.Else = turning (length (below st))
written st line.End = ending_of st
written st (line.Loop i n) = looping (length st) i n
written st line.Break = breaking (length st) (loop_level st)
written st (line.Turn i n) = []

-- What is written for the lines of a rule.
unfoldable pub pass : List Open → List Line → List Line
pass st [] = []
pass st (x ∷ xs) = written st x ++ pass (after st x) xs

-- The three lines that a balanced rule begins with.
abbrev pub beginning : List Line
beginning = doing (op.Word (f 64) 0) ∷ (doing (op.Word (f 65) 1) ∷ (doing (op.Sub (mask 0) (f 64) (f 65)) ∷ []))
