-- What a rule costs: the most lines that a plain run goes through, and the steps of its balanced lines.
use Rattle.std.specs.Prelude.{ℕ, suc, ◌+◌, ◌-◌, ◌*◌, max}
use Rattle.rules.specs.Trees.{Rule, done, op, when, loop, break}

-- P, the most entries of a plain roll: of an `if` the larger part counts.
unfoldable pub plain_cost : Rule → ℕ
plain_cost done = 0
plain_cost (op o r) = 1 + plain_cost r
plain_cost (when a p q r) = 1 + max (plain_cost p) (plain_cost q) + plain_cost r
plain_cost (loop i n b r) = 1 + n * plain_cost b + plain_cost r
plain_cost (break r) = 1 + plain_cost r

-- The balanced steps of a block at level k, where the body of the innermost loop around it has level j.
unfoldable pub block_cost : Rule → ℕ → ℕ → ℕ
block_cost done k j = 0
block_cost (op o r) k j = 5 + block_cost r k j
block_cost (when a p q r) k j = 5 + block_cost p (suc k) j + block_cost q (suc k) j + block_cost r k j
block_cost (loop i n b r) k j = 4 + n * (block_cost b (suc k) (suc k) + 1) + block_cost r k j
block_cost (break r) k j = k - j + 2 + block_cost r k j

-- B, the steps of a balanced rule: three to begin with, and those of its block.
unfoldable pub balanced_cost : Rule → ℕ
balanced_cost r = 3 + block_cost r 0 0
