-- The pass over a table sums up the costs of its rule, or finds the first fault.
use Rattle.std.proofs.Common.{◌≡◌, ℕ, suc, ◌+◌, ◌*◌, ◌≤◌, List, [], ◌∷◌, length, Result, arith}
use Rattle.lines.specs.declared.line.Line.{Line}
use Rattle.lines.specs.declared.line.Line.TheVariants as line
use Rattle.nesting.specs.declared.open.Open.{Open}
use Rattle.nesting.specs.declared.open.Open.TheVariants as open_is
use Rattle.nesting.specs.declared.open.Frame.{Frame}
use Rattle.nesting.specs.Blocks.{Blocks, last, front, behind}
use Rattle.nesting.specs.Levels.{opens, loop_level}
use Rattle.nesting.specs.Passes.{passed}
use Rattle.nesting.proofs.Caps.{cap_times}
use Rattle.nesting.proofs.Passes.{refused}
use Rattle.nesting.proofs.Levels.{length-opens}
use Rattle.rules.specs.declared.check.Costs.{Costs}
use Rattle.rules.specs.declared.check.Sums.{Sums}
use Rattle.rules.specs.declared.fault.CheckFault.{CheckFault}
use Rattle.rules.specs.Trees.{Rule, done, op, when, loop, break, flat, blocks}
use Rattle.rules.specs.Costs.{plain_cost, block_cost}
use Rattle.rules.specs.Checks.{nesting_fault}
use Rattle.rules.specs.Passes.{free, plus, if_costs, loop_costs, finish, pass}

-- how many lines a rule has
unfoldable pub size : Rule → ℕ
size done = 0
size (op o r) = 1 + size r
size (when a p q r) = 3 + size p + size q + size r
size (loop i n b r) = 2 + size b + size r
size (break r) = 1 + size r

pub length-flat : (r : Rule) (l : List Line) → length (flat r l) ≡ size r + length l
unfolding flat size
length-flat done l = grind arith
length-flat (op o r) l = grind (arith, length-flat r)
length-flat (when a p q r) l = grind (arith, length-flat p, length-flat q, length-flat r)
length-flat (loop i n b r) l = grind (arith, length-flat b, length-flat r)
length-flat (break r) l = grind (arith, length-flat r)

-- the costs c, and those of a block inside st
abbrev pub added : List (Frame Sums) → Costs → Rule → Costs
added st c r = plus c (plain_cost r) (block_cost r (length st) (loop_level (opens st)))

-- the same where the block is over in one open line, and `rest` goes on in the lines st around that one
abbrev pub closed : Open → Sums → List (Frame Sums) → (Costs → Blocks Rule → Costs) → Costs → Blocks Rule → Costs
closed open_is.Then k st rest c bs =
    let second = plus free (plain_cost (front bs)) (block_cost (front bs) (suc (length st)) (loop_level (opens st))) in
    rest (added st (if_costs (record { before = k.before; first = c }) second) (front (behind done bs))) (behind done (behind done bs))
closed open_is.Else k st rest c bs = rest (added st (if_costs k c) (front bs)) (behind done bs)
closed (open_is.Loop i n) k st rest c bs = rest (added st (loop_costs n k c) (front bs)) (behind done bs)

-- the costs at the end of a table, where a block with the costs c is over in st, and the blocks bs are to come
abbrev pub ended : List (Frame Sums) → Costs → Blocks Rule → Costs
ended [] c bs = c
ended (f ∷ st) c bs = closed f.part f.kept st (ended st) c bs

-- what is answered at the end of a table with the costs c
unfoldable pub answer : ℕ → Costs → Result Costs CheckFault
answer at c = finish at (record { stack = []; costs = c })

-- a loop's costs in one sum
loop_sum : (c f : Costs) (n p b : ℕ) → loop_costs n (record { before = c; first = f }) (plus free p b) ≡ plus c (1 + n * p) (4 + n * (b + 1))
loop_sum c f n p b = grind (arith, cap_times n p, cap_times n (b + 1))

-- the pass at the end of a table
counted_end : (at : ℕ) (st : List (Frame Sums)) (c : Costs) → c.plain ≤ 65536 → c.balanced ≤ 65536 → finish at (record { stack = st; costs = c }) ≡ refused (nesting_fault at (opens st) []) (answer at (ended st (plus c 0 0) (last done)))
unfolding nesting_fault answer
counted_end at st c h g = grind arith

-- the pass finds the first fault, or sums up the costs
pub counted : (l : List Line) (at : ℕ) (st : List (Frame Sums)) (c : Costs) → c.plain ≤ 65536 → c.balanced ≤ 65536 →
    pass at (record { stack = st; costs = c }) l ≡ refused (nesting_fault at (opens st) l) (answer (at + length l) (ended st (added st c (front (blocks l))) (behind done (blocks l))))
unfolding passed nesting_fault blocks plain_cost block_cost
counted [] at st c h g = grind (arith, counted_end at st c)
counted (line.Operation o ∷ l) at st c h g = grind (arith, counted l (at + 1))
counted (line.If a ∷ l) at st c h g = grind (arith, length-opens, counted l (at + 1))
counted (line.Else ∷ l) at st c h g = grind (arith, counted l (at + 1))
counted (line.End ∷ l) at st c h g = grind (arith, counted l (at + 1))
counted (line.Loop i n ∷ l) at st c h g = grind (arith, length-opens, loop_sum, counted l (at + 1))
counted (line.Break ∷ l) at st c h g = grind (arith, counted l (at + 1))
counted (line.Turn i n ∷ l) at st c h g = grind arith
