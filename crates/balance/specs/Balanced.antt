-- The balanced form of a rule.
use Rattle.std.specs.Prelude.{ℕ, zero, suc, ◌+◌, ◌-◌, List, []}
use Rattle.lines.specs.Operations.{destination, into}
use Rattle.lines.specs.declared.operation.Operation.TheVariants as op
use Rattle.lines.specs.declared.line.Line.{Line}
use Rattle.rules.specs.Trees as rule
use Rattle.rules.specs.Trees.{Rule}
use Rattle.tables.specs.Lines.{Lines, stop, does, turn, flat}
use Rattle.balance.specs.Fields.{f, mask, choice, saved}

-- `and M(r) M(r) f66`, for n levels from r on.
unfoldable pub clears : ℕ → ℕ → Lines → Lines
clears r zero l = l
clears r (suc n) l = does (op.And (mask r) (mask r) (f 66)) (clears (r + 1) n l)

-- The lines of a block at level k, where the body of the innermost loop around it has level j; then the lines l.
-- An operation is done into f66 and kept only under the mask; the masks inside an `if` or a loop are made from the one outside; a `break` clears
-- the masks from the loop's body up to its own.
unfoldable pub balance : Rule → ℕ → ℕ → Lines → Lines
balance rule.done k j l = l
balance (rule.op o r) k j l =
    does (into o (f 66)) (does (op.And (f 66) (f 66) (mask k)) (does (op.Not (f 67) (mask k)) (does (op.And (f 67) (f 67) (destination o))
    (does (op.Or (destination o) (f 66) (f 67)) (balance r k j l)))))
balance (rule.when a p q r) k j l =
    does (op.Same (f 66) a (f 64)) (does (op.Sub (choice (k + 1)) (f 66) (f 65)) (does (op.And (mask (k + 1)) (mask k) (choice (k + 1)))
    (balance p (k + 1) j
    (does (op.Not (f 66) (choice (k + 1))) (does (op.And (mask (k + 1)) (mask k) (f 66))
    (balance q (k + 1) j (balance r k j l)))))))
balance (rule.loop i n b r) k j l =
    does (op.Copy (saved (k + 1)) i) (does (op.Copy (mask (k + 1)) (mask k)) (turn i n (balance b (k + 1) (k + 1) stop)
    (does (op.Copy i (saved (k + 1))) (balance r k j l))))
balance (rule.break r) k j l = does (op.Not (f 66) (mask k)) (clears j (k + 1 - j) (balance r k j l))

-- A balanced rule: f64 is 0, f65 is 1, the mask of level 0 is all ones, and the lines of the block follow.
unfoldable pub balanced : Rule → Lines
balanced r = does (op.Word (f 64) 0) (does (op.Word (f 65) 1) (does (op.Sub (mask 0) (f 64) (f 65)) (balance r 0 0 stop)))

-- The table of a balanced rule.
abbrev pub balanced_table : Rule → List Line
balanced_table r = flat (balanced r) []
