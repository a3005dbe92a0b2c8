-- The check answers what its conditions and the costs of the tree say.
use Rattle.std.proofs.Common.{◌≡◌, ℕ, suc, ◌≤◌, List, [], length, mul-le-mul_left, arith}
use Rattle.lines.specs.declared.line.Line.{Line}
use Rattle.rules.specs.Trees.{Rule, done, op, when, loop, break, rule_of}
use Rattle.rules.specs.Costs.{plain_cost, block_cost, balanced_cost}
use Rattle.rules.specs.Checks.{Checked, IsRule, checked}
use Rattle.rules.specs.Passes.{start, pass}
use Rattle.rules.proofs.Parsed.{stands, rule_flat}
use Rattle.rules.proofs.Costed.{answer, counted}

-- a plain run is never longer than the balanced one
pub plain_below : (r : Rule) (k j : ℕ) → plain_cost r ≤ block_cost r k j
unfolding plain_cost block_cost
plain_below done k j = grind arith
plain_below (op o r) k j = grind (arith, plain_below r k j)
plain_below (when a p q r) k j = grind (arith, plain_below p (suc k) j, plain_below q (suc k) j, plain_below r k j)
plain_below (loop i n b r) k j = let m = mul-le-mul_left n (plain_below b (suc k) (suc k)) in grind (arith, plain_below r k j)
plain_below (break r) k j = grind (arith, plain_below r k j)

pub checks : (l : List Line) → length l ≤ 256 → pass 0 (record { stack = []; costs = start }) l ≡ checked l
unfolding balanced_cost answer
checks l h = grind (arith, plain_below (rule_of l) 0 0, counted l 0 [] start)

pub is_rule : (l : List Line) → Checked l → IsRule l
is_rule l c = grind (arith, stands, rule_flat)
